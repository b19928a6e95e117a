use Rattle.table_soundness.proofs.Prelude.{◌<◌, take, All, facts_of}
use Rattle.table_soundness.proofs.objects.are_mediums_below.Given as goal

abbrev pub invariant-loop-patch : goal.invariant-loop-patch
invariant-loop-patch l = All (λ f. f.medium.0 < l.next) (facts_of (take l.patch-index l.patches))
