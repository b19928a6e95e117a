use Rattle.std.proofs.Common.{◌≡◌, ◌≤◌, ◌+◌, map, take}
use Rattle.pyramid.specs.Prelude.{OBJECTS, ObjectFact}
use Rattle.indexmap.specs.IndexMap.{spare}
use Rattle.object_table.proofs.named.by_name.Given as goal

abbrev pub invariant-loop-object : goal.invariant-loop-object
invariant-loop-object l = record {
  entries : l.named.entries ≡ map (λ (x : ObjectFact). (x.name, x)) (take l.object-index l.fn.objects);
  room : OBJECTS ≤ l.object-index + spare l.named;
}
