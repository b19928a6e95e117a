use Rattle.world_mem.proofs.Prelude.{IsSame, ReadCounts}
use Rattle.world_mem.proofs.Bank.{both, called}
use Rattle.world_mem.proofs.several.read_in.Goals as goal

pub returns-clause-device : goal.returns-clause-device
returns-clause-device c = both c.args.parts.now.items c.args.k c.index_mut.result.now c.read_part.new.part c.requires.is_there c.index_mut.ensures.value (λ a b. IsSame a b) c.read_part.ensures.device

pub returns-clause-counts : goal.returns-clause-counts
returns-clause-counts c = both c.args.parts.now.items c.args.k c.index_mut.result.now c.read_part.new.part c.requires.is_there c.index_mut.ensures.value (λ a b. ReadCounts c.read_part.result a b) c.read_part.ensures.counts

pub returns-clause-called : goal.returns-clause-called
returns-clause-called c = called c.args.parts.now.items c.args.k c.index_mut.result.now c.requires.is_there c.index_mut.ensures.value c.read_part.ensures.called
