use Rattle.table_soundness.proofs.Prelude.{ℕ, ◌<◌, get_or, ObjectFact, Avoids}
use Rattle.table_soundness.proofs.owned.avoid.Given as goal

abbrev pub invariant-loop-object : goal.invariant-loop-object
invariant-loop-object l = (i : ℕ) (d : ObjectFact) → i < l.object-index → Avoids l.mediums (get_or l.objects i d)
