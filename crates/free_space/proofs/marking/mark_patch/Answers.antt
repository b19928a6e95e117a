use Rattle.free_space.proofs.Prelude.{refl, [], get_or, arith, PatchSegment, patch_units}
use Rattle.free_space.proofs.Loops.{next_can, next_marked}
use Rattle.free_space.proofs.marking.mark_patch.Goals as goal

abbrev blank : PatchSegment
blank = record { id = 0; places = [] }

pub mark_places-requires : goal.mark_places-requires
mark_places-requires c =
    let segments = c.args.segments.now in
    let index = c.loop-segment.segment-index in
    next_can (λ (s : PatchSegment). s.places) segments index (get_or segments index blank) blank c.args.map.now c.loop-segment.map (patch_units segments) (omega (arith, c.loop-segment-test.true)) refl c.loop-segment.invariant

pub loop-segment-preserved : goal.loop-segment-preserved
loop-segment-preserved c =
    let segments = c.args.segments.now in
    let index = c.loop-segment.segment-index in
    next_marked (λ (s : PatchSegment). s.places) segments index (get_or segments index blank) blank c.args.map.now c.loop-segment.map c.mark_places.new.map (patch_units segments) (omega (arith, c.loop-segment-test.true)) refl c.loop-segment.invariant c.mark_places.ensures
