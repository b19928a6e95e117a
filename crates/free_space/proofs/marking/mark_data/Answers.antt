use Rattle.free_space.proofs.Prelude.{refl, [], get_or, arith, SegmentFact, data_units}
use Rattle.free_space.proofs.Loops.{next_can, next_marked}
use Rattle.free_space.proofs.marking.mark_data.Goals as goal

abbrev blank : SegmentFact
blank = record { segment = record { 0 = 0 }; places = []; placed = 0; seq = record { 0 = 0 } }

pub mark_places-requires : goal.mark_places-requires
mark_places-requires c =
    let segments = c.args.segments.now in
    let index = c.loop-segment.segment-index in
    next_can (λ (s : SegmentFact). s.places) segments index (get_or segments index blank) blank c.args.map.now c.loop-segment.map (data_units segments) (omega (arith, c.loop-segment-test.true)) refl c.loop-segment.invariant

pub loop-segment-preserved : goal.loop-segment-preserved
loop-segment-preserved c =
    let segments = c.args.segments.now in
    let index = c.loop-segment.segment-index in
    next_marked (λ (s : SegmentFact). s.places) segments index (get_or segments index blank) blank c.args.map.now c.loop-segment.map c.mark_places.new.map (data_units segments) (omega (arith, c.loop-segment-test.true)) refl c.loop-segment.invariant c.mark_places.ensures
