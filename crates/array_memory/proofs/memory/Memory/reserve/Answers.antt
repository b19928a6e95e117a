use Rattle.array_memory.proofs.Prelude.{roomed_then}
use Rattle.array_memory.proofs.memory.Memory.reserve.Goals as goal

pub returns-clause-rest : goal.returns-clause-rest
returns-clause-rest c = roomed_then c.args.self.now c.reserve_in_tables.new.self c.reserve_beside.new.self c.reserve_in_tables.ensures.rest c.reserve_beside.ensures.rest
