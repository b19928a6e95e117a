use Rattle.table_soundness.proofs.Prelude.{bytes_eq, ◌≡◌, map, take, ObjectFact}
use Rattle.std.specs.HashSet.{IsUnique}
use Rattle.table_soundness.proofs.objects.are_names_distinct.Given as goal

abbrev pub invariant-loop-object : goal.invariant-loop-object
invariant-loop-object l = record {
  names : l.names.keys ≡ map (λ (x : ObjectFact). x.name) (take l.object-index l.objects);
  unique : IsUnique bytes_eq l.names;
}
