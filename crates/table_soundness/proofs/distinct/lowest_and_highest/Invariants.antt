use Rattle.table_soundness.proofs.Prelude.{ℕ, ◌<◌, ◌≤◌, get_or, Contains}
use Rattle.table_soundness.proofs.distinct.lowest_and_highest.Given as goal

abbrev pub invariant-loop-number : goal.invariant-loop-number
invariant-loop-number l = record {
  low : Contains l.numbers l.low;
  high : Contains l.numbers l.high;
  within : (i : ℕ) (d : ℕ) → i < l.number-index → (l.low ≤ get_or l.numbers i d) × (get_or l.numbers i d ≤ l.high);
}
