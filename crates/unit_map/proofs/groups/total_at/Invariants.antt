use Rattle.unit_map.proofs.Prelude.{◌≡◌, ◌≤◌, ◌*◌, sum_by, take, UNITS_MAX, share}
use Rattle.unit_map.proofs.groups.total_at.Given as goal

abbrev pub invariant-loop-drive : goal.invariant-loop-drive
invariant-loop-drive l = record {
  total : l.total ≡ sum_by (share l.groups) (take l.drive-index l.drives);
  limit : l.total ≤ l.drive-index * UNITS_MAX;
}
