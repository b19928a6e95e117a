use Rattle.world_mem.proofs.Prelude.{WasSynced, WriteCounts}
use Rattle.world_mem.proofs.Bank.{both, called}
use Rattle.world_mem.proofs.several.sync_in.Goals as goal

pub returns-clause-device : goal.returns-clause-device
returns-clause-device c = both c.args.parts.now.items c.args.k c.index_mut.result.now c.sync_part.new.part c.requires c.index_mut.ensures.value (λ a b. WasSynced c.sync_part.result a b) c.sync_part.ensures.device

pub returns-clause-counts : goal.returns-clause-counts
returns-clause-counts c = both c.args.parts.now.items c.args.k c.index_mut.result.now c.sync_part.new.part c.requires c.index_mut.ensures.value (λ a b. WriteCounts c.sync_part.result a b) c.sync_part.ensures.counts

pub returns-clause-called : goal.returns-clause-called
returns-clause-called c = called c.args.parts.now.items c.args.k c.index_mut.result.now c.requires c.index_mut.ensures.value c.sync_part.ensures.called
