use Rattle.table_soundness.proofs.Prelude.{take, All, facts_of, IsBelow}
use Rattle.table_soundness.proofs.elisions.are_all_below.Given as goal

abbrev pub invariant-loop-patch : goal.invariant-loop-patch
invariant-loop-patch l = All (IsBelow l.next) (facts_of (take l.patch-index l.patches))
