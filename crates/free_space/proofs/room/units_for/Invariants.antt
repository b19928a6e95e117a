use Rattle.free_space.proofs.Prelude.{◌≡◌, ◌≤◌, ◌*◌, min, sum_by, take}
use Rattle.free_space.proofs.room.units_for.Given as goal

abbrev pub invariant-loop-count : goal.invariant-loop-count
invariant-loop-count l = record {
  units : l.units ≡ sum_by (min l.groups) (take l.count-index l.free);
  limit : l.units ≤ l.count-index * 65535;
}
