use Rattle.array_memory.proofs.Prelude.{reads_with_rooms}
use Rattle.array_memory.proofs.memory.Memory.prepare.Goals as goal

pub returns-clause-reads : goal.returns-clause-reads
returns-clause-reads c = reads_with_rooms c.args.self.now c.reserve.new.self c.reserve.ensures.rest
