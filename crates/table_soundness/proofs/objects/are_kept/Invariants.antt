use Rattle.table_soundness.proofs.Prelude.{ℕ, ◌<◌, get_or, ObjectFact, IsKept}
use Rattle.table_soundness.proofs.objects.are_kept.Given as goal

abbrev pub invariant-loop-x : goal.invariant-loop-x
invariant-loop-x l = (i : ℕ) (d : ObjectFact) → i < l.x-index → IsKept l.elided (get_or l.objects i d)
