use Rattle.parity72.proofs.Prelude.{ℕ, ◌<◌, slice_index}
use Rattle.parity72.proofs.Linear.{LeftToAdd}
use Rattle.parity72.proofs.lanes.multiply_quarter.Given as goal

abbrev pub invariant-loop-k : goal.invariant-loop-k
invariant-loop-k l =
    (k : ℕ) → k < 16 → LeftToAdd (slice_index l.fn.lanes k) l.fn.factor l._k (slice_index l.sum k) (slice_index l.power k) l.rest
