use Rattle.table_soundness.proofs.Prelude.{ℕ, ◌<◌, get_or, ObjectFact, EndsWithin}
use Rattle.table_soundness.proofs.addresses.end_within.Given as goal

abbrev pub invariant-loop-object : goal.invariant-loop-object
invariant-loop-object l = (i : ℕ) (d : ObjectFact) → i < l.object-index → EndsWithin l.addresses (get_or l.objects i d)
