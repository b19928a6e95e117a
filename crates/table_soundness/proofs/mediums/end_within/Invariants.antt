use Rattle.table_soundness.proofs.Prelude.{ℕ, ◌<◌, get_or, ObjectFact}
use Rattle.table_soundness.specs.Mediums.{EndsWithin}
use Rattle.table_soundness.proofs.mediums.end_within.Given as goal

abbrev pub invariant-loop-object : goal.invariant-loop-object
invariant-loop-object l = (i : ℕ) (d : ObjectFact) → i < l.object-index → EndsWithin l.ranges (get_or l.objects i d)
