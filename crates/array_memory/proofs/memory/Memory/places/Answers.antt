use Rattle.array_memory.proofs.Seen.{seen}
use Rattle.array_memory.proofs.Prelude.{none_if}
use Rattle.array_memory.proofs.memory.Memory.places.Goals as goal

pub returns-clause-none : goal.returns-clause-none
returns-clause-none c = rw (← c.self.view_is) (none_if (seen c.self.inside) c.places.result c.self.invariant c.args.id.0 c.places.ensures.none)
