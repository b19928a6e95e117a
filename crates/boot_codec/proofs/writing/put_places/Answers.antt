use Rattle.boot_codec.proofs.Prelude.{arith, length-flat_map-take, place_bytes}
use Rattle.boot_codec.proofs.writing.put_places.Goals as goal

pub put_place-end-requires : goal.put_place-end-requires
unfolding place_bytes
put_place-end-requires c = omega (arith, c.loop-place.invariant.end, length-flat_map-take place_bytes c.args.places.now c.loop-place.place-index (record { slot = 0; unit = 0 }) c.loop-place-test.true)
