use Rattle.free_space.proofs.Prelude.{get_or, refl, arith, Place}
use Rattle.free_space.proofs.Taking.{one_has, one_taken, unit_there}
use Rattle.free_space.proofs.counting.take_places.Goals as goal

abbrev blank : Place
blank = record { slot = 0; unit = 0 }

pub bounds-free-place : goal.bounds-free-place
bounds-free-place c =
    let places = c.args.places.now in
    let index = c.loop-place.place-index in
    let there = unit_there c.loop-place.free (get_or places index blank) (one_has places index (get_or places index blank) blank c.args.free.now c.loop-place.free places (omega (arith, c.loop-place-test.true)) refl c.loop-place.invariant) in
    omega (arith, there.0, c.type_inv.free)

pub loop-place-preserved : goal.loop-place-preserved
loop-place-preserved c =
    let places = c.args.places.now in
    let index = c.loop-place.place-index in
    one_taken places index (get_or places index blank) blank c.args.free.now c.loop-place.free _ places (omega (arith, c.loop-place-test.true)) refl c.loop-place.invariant refl
