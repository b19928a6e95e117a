use Rattle.medium_table.proofs.Prelude.{◌≡◌, length, take, AreMarks}
use Rattle.medium_table.proofs.marks.marks_of.Given as goal

abbrev pub invariant-loop-medium : goal.invariant-loop-medium
invariant-loop-medium l = record {
  each : length l.marks.items ≡ length l.ranges;
  marked : AreMarks l.ranges l.marks.items (take l.medium-index l.mediums);
}
