use Rattle.array_memory.proofs.Prelude.{sym, ◌∙◌, visible_segments_are}
use Rattle.array_memory.proofs.Seen.{seen}
use Rattle.array_memory.proofs.memory.Memory.segments.Goals as goal

pub returns-clause-said : goal.returns-clause-said
returns-clause-said c = rw (← c.self.view_is) (visible_segments_are (seen c.self.inside) c.self.invariant ∙ sym c.all.ensures)
