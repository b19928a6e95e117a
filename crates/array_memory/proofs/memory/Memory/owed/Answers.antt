use Rattle.array_memory.proofs.OwedLemmas.{range_end}
use Rattle.array_memory.proofs.memory.Memory.owed.Goals as goal

pub owed_in-requires-clause-end : goal.owed_in-requires-clause-end
owed_in-requires-clause-end c = range_end c.args.self.now c.kept.ensures c.args.range.now c.requires.sound c.requires.there
