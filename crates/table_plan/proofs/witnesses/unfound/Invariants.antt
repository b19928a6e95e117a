use Rattle.table_plan.proofs.Prelude.{◌≡◌, ℕ, ◌<◌, Bool, not, filter, length, get_or, take, None}
use Rattle.std.specs.Option.{is_some}
use Rattle.table_plan.proofs.witnesses.unfound.Given as goal

abbrev pub invariant-loop-i : goal.invariant-loop-i
invariant-loop-i l = (p : ℕ → Bool) → ((i : ℕ) → i < length l.ids → is_some (get_or l.found i None) ≡ p (get_or l.ids i 0)) → l.out.items ≡ filter (λ id. not (p id)) (take l.i l.ids)
