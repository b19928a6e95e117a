use Rattle.table_soundness.proofs.Prelude.{drop, AscendFrom}
use Rattle.table_soundness.proofs.places.ascend.Given as goal

abbrev pub invariant-loop-place : goal.invariant-loop-place
invariant-loop-place l = record {
  down : AscendFrom l.slots l.units 0 l.places → AscendFrom l.slots l.units l.least (drop l.place-index l.places);
  up : AscendFrom l.slots l.units l.least (drop l.place-index l.places) → AscendFrom l.slots l.units 0 l.places;
}
