use Rattle.table_soundness.proofs.Prelude.{ℕ, ◌<◌, get_or, PatchSegment}
use Rattle.table_soundness.proofs.named.are_named_below.Given as goal

abbrev pub invariant-loop-segment : goal.invariant-loop-segment
invariant-loop-segment l = (i : ℕ) (d : PatchSegment) → i < l.segment-index → (get_or l.named i d).id < l.next
