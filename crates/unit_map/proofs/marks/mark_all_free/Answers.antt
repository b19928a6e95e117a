use Rattle.unit_map.proofs.Prelude.{◌<◌, ◌≤◌, length, arith}
use Rattle.unit_map.proofs.MarkLemmas.{marked-all}
use Rattle.unit_map.proofs.marks.mark_all_free.Goals as goal

pub returns : goal.returns
returns c =
    let ended : length c.args.places.now ≤ c.loop-place.place-index = omega (arith, c.told-places, c.loop-place-test.false) in
    marked-all c.args.drives.now c.loop-place.drives c.args.places.now c.loop-place.place-index ended c.loop-place.invariant
