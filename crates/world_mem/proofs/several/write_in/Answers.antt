use Rattle.world_mem.proofs.Prelude.{◌≡◌, true, WasWritten, WriteCounts}
use Rattle.world_mem.proofs.Bank.{both, called}
use Rattle.world_mem.proofs.several.write_in.Goals as goal

pub returns-clause-device : goal.returns-clause-device
returns-clause-device c = both c.args.parts.now.items c.args.k c.index_mut.result.now c.write_part.new.part c.requires.is_there c.index_mut.ensures.value (λ a b. WasWritten c.write_part.result (c.write_part.new.starved ≡ true) c.args.at c.args.from.now a b) c.write_part.ensures.device

pub returns-clause-counts : goal.returns-clause-counts
returns-clause-counts c = both c.args.parts.now.items c.args.k c.index_mut.result.now c.write_part.new.part c.requires.is_there c.index_mut.ensures.value (λ a b. WriteCounts c.write_part.result a b) c.write_part.ensures.counts

pub returns-clause-called : goal.returns-clause-called
returns-clause-called c = called c.args.parts.now.items c.args.k c.index_mut.result.now c.requires.is_there c.index_mut.ensures.value c.write_part.ensures.called
