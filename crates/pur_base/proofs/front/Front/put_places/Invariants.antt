use Rattle.std.proofs.Common.{◌≡◌, ◌+◌, ◌*◌, ◌++◌, length, take, All}
use Rattle.pur_base.specs.Places.{places_bytes, FitsBytes}
use Rattle.pur_base.proofs.front.Front.put_places.Given as goal

abbrev pub invariant-loop-place : goal.invariant-loop-place
invariant-loop-place g l = record {
  bytes : l.self ≡ l.fn.self ++ places_bytes (take l.place-index l.places);
  fits : All FitsBytes (take l.place-index l.places);
  len : length l.self ≡ length l.fn.self + 3 * l.place-index;
}
