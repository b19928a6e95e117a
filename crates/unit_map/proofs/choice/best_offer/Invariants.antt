use Rattle.unit_map.proofs.Prelude.{◌≡◌, ◌<◌, ◌≤◌, ℕ, offer_at}
use Rattle.unit_map.proofs.choice.best_offer.Given as goal

abbrev pub invariant-loop-slot : goal.invariant-loop-slot
invariant-loop-slot l = record {
  seen : (k : ℕ) → k < l.slot → offer_at l.drives l.chosen k ≤ l.most;
  within : 0 < l.most → l.best < l.slot;
  best : 0 < l.most → offer_at l.drives l.chosen l.best ≡ l.most;
  lowest : 0 < l.most → (k : ℕ) → k < l.best → offer_at l.drives l.chosen k < l.most;
}
