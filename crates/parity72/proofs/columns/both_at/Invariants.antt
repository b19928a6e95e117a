use Rattle.parity72.proofs.Prelude.{◌≡◌, ℕ, ◌+◌, ◌-◌, ◌<◌, ◌≤◌, slice_index, column_of, without}
use Rattle.parity72.proofs.Sums.{sum_from}
use Rattle.parity72.proofs.columns.both_at.Given as goal

abbrev pub invariant-loop-i : goal.invariant-loop-i
invariant-loop-i l = record {
  within : l.i ≤ 8;
  sum : (k : ℕ) → k < 64 → slice_index l.sum k ≡ sum_from (without l.a l.b (column_of l.shards (l.at + k))) l.i (8 - l.i);
}

abbrev pub decreases-loop-i : goal.decreases-loop-i
decreases-loop-i l = l.i
