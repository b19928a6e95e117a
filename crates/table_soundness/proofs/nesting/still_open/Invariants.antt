use Rattle.table_soundness.proofs.Prelude.{ℕ, ◌+◌, ◌<◌, ◌≤◌, length, slice_index}
use Rattle.table_soundness.proofs.nesting.still_open.Given as goal

abbrev pub invariant-loop-len : goal.invariant-loop-len
invariant-loop-len l = record {
  within : l.len ≤ length l.ends;
  ended : (i : ℕ) → l.len ≤ i → i < length l.ends → slice_index l.ends i + 1 < l.start;
}

abbrev pub decreases-loop-len : goal.decreases-loop-len
decreases-loop-len l = l.len
