use Rattle.record_tables.proofs.Prelude.{◌≡◌, ◌≤◌, length}
use Rattle.std.specs.Vec.{vec_capacity}
use Rattle.record_tables.proofs.Taking.{AreTaken}
use Rattle.record_tables.proofs.units.take_units.Given as goal

abbrev pub invariant-loop-segment : goal.invariant-loop-segment
invariant-loop-segment l = record {
  taken : AreTaken l.initial.map l.map l.count l.units.items;
  long : length l.units.items ≡ l._segment;
  room : l.count ≤ vec_capacity l.units;
}
