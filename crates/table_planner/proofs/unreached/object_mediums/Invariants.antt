use Rattle.table_planner.proofs.Prelude.{◌≡◌, map, take, ObjectFact}
use Rattle.table_planner.proofs.unreached.object_mediums.Given as goal

abbrev pub invariant-loop-i : goal.invariant-loop-i
invariant-loop-i l = l.mediums.items ≡ map (λ (x : ObjectFact). x.medium) (take l.i l.memory.objects)
