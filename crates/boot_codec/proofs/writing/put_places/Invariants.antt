use Rattle.boot_codec.proofs.Prelude.{take, flat_map, place_bytes, IsWritten}
use Rattle.boot_codec.proofs.writing.put_places.Given as goal

abbrev pub invariant-loop-place : goal.invariant-loop-place
invariant-loop-place l = IsWritten l.fn.into l.into l.at l.end (flat_map place_bytes (take l.place-index l.places))
