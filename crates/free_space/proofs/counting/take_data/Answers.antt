use Rattle.free_space.proofs.Prelude.{refl, [], get_or, arith, SegmentFact, data_units}
use Rattle.free_space.proofs.Taking.{next_has, next_taken, taking_none, all_taken}
use Rattle.free_space.proofs.counting.take_data.Goals as goal

abbrev blank : SegmentFact
blank = record { segment = record { 0 = 0 }; places = []; placed = 0; seq = record { 0 = 0 } }

pub loop-segment-init : goal.loop-segment-init
loop-segment-init c = taking_none c.args.free.now (data_units c.args.segments.now) c.requires

pub take_places-requires : goal.take_places-requires
take_places-requires c =
    let segments = c.args.segments.now in
    let index = c.loop-segment.segment-index in
    next_has (λ (s : SegmentFact). s.places) segments index (get_or segments index blank) blank c.args.free.now c.loop-segment.free (data_units segments) (omega (arith, c.loop-segment-test.true)) refl c.loop-segment.invariant

pub loop-segment-preserved : goal.loop-segment-preserved
loop-segment-preserved c =
    let segments = c.args.segments.now in
    let index = c.loop-segment.segment-index in
    next_taken (λ (s : SegmentFact). s.places) segments index (get_or segments index blank) blank c.args.free.now c.loop-segment.free c.take_places.new.free (data_units segments) (omega (arith, c.loop-segment-test.true)) refl c.loop-segment.invariant c.take_places.ensures

pub returns : goal.returns
returns c = all_taken (λ (s : SegmentFact). s.places) c.args.segments.now c.loop-segment.segment-index c.args.free.now c.loop-segment.free (data_units c.args.segments.now) (omega (arith, c.loop-segment-test.false)) c.loop-segment.invariant
