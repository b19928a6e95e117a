use Rattle.parity72.proofs.Prelude.{◌≡◌, ℕ, ◌+◌, ◌<◌, ◌≤◌, slice_index, column_of, filled}
use Rattle.parity72.proofs.Sums.{horner_from}
use Rattle.parity72.proofs.columns.filled_q_at.Given as goal

abbrev pub invariant-loop-i : goal.invariant-loop-i
invariant-loop-i l = record {
  within : l.i ≤ 6;
  bytes : (j k : ℕ) → l.i ≤ j → j < 7 → k < 64 → filled l.a l.b (column_of l.shards (l.at + k)) j < 256;
  sum : (k : ℕ) → k < 64 → slice_index l.sum k ≡ horner_from (filled l.a l.b (column_of l.shards (l.at + k))) l.i;
}

abbrev pub decreases-loop-i : goal.decreases-loop-i
decreases-loop-i l = l.i
