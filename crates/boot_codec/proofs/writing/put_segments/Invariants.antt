use Rattle.boot_codec.proofs.Prelude.{take, flat_map, segment_bytes, IsWritten}
use Rattle.boot_codec.proofs.writing.put_segments.Given as goal

abbrev pub invariant-loop-segment : goal.invariant-loop-segment
invariant-loop-segment l = IsWritten l.fn.into l.into l.at l.end (flat_map segment_bytes (take l.segment-index l.segments))
