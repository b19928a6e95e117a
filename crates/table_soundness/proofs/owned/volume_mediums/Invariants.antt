use Rattle.table_soundness.proofs.Prelude.{◌≡◌, ◌++◌, drop, volume_mediums}
use Rattle.table_soundness.proofs.owned.volume_mediums.Given as goal

abbrev pub invariant-loop-object : goal.invariant-loop-object
invariant-loop-object l = l.mediums.items ++ volume_mediums (drop l.object-index l.objects) ≡ volume_mediums l.objects
