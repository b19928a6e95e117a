use Rattle.boot_codec.proofs.Prelude.{[], arith, length-flat_map-take, segment_bytes}
use Rattle.boot_codec.proofs.writing.put_segments.Goals as goal

pub put_segment-end-requires : goal.put_segment-end-requires
put_segment-end-requires c = omega (arith, c.loop-segment.invariant.end, length-flat_map-take segment_bytes c.args.segments.now c.loop-segment.segment-index (record { id = 0; places = [] }) c.loop-segment-test.true)
