use Rattle.array_memory.proofs.Prelude.{visible_segments_are}
use Rattle.array_memory.proofs.visible.visible_segments.Goals as goal

pub returns : goal.returns
returns c = visible_segments_are
