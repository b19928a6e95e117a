use Rattle.segment_io.proofs.Prelude.{◌≡◌, ℕ, ◌<◌, ◌≤◌, ◌||◌, is_in}
use Rattle.segment_io.proofs.closing.join.Given as goal

abbrev pub invariant-loop-slot : goal.invariant-loop-slot
invariant-loop-slot l = record {
  passed : (k : ℕ) → k < l.slot → is_in l.lost.drives k ≡ (is_in l.fn.lost.drives k || is_in l.more.drives k);
  ahead : (k : ℕ) → l.slot ≤ k → is_in l.lost.drives k ≡ is_in l.fn.lost.drives k;
}
