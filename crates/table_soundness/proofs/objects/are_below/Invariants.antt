use Rattle.table_soundness.proofs.Prelude.{ℕ, ◌<◌, get_or, ObjectFact}
use Rattle.table_soundness.proofs.objects.are_below.Given as goal

abbrev pub invariant-loop-fact : goal.invariant-loop-fact
invariant-loop-fact l = (i : ℕ) (d : ObjectFact) → i < l.fact-index → (get_or l.facts i d).medium.0 < l.next
