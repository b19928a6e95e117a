use Rattle.std.proofs.Common.{◌≡◌, ◌+◌, ◌*◌, ◌++◌, length, take, All}
use Rattle.pur_base.specs.Places.{places_bytes, FitsBytes}
use Rattle.pur_base.proofs.reading.places_in.Given as goal

abbrev pub invariant-loop-i : goal.invariant-loop-i
invariant-loop-i l = record {
  field : l.bytes ≡ places_bytes (take l.i l.places) ++ l.rest;
  fits : All FitsBytes (take l.i l.places);
  nine : length l.places ≡ 9;
  rest : length l.rest + 3 * l.i ≡ length l.bytes;
}
