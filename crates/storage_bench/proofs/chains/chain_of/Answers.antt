use Rattle.pur_base.specs.declared.request.Table.TheVariants as table
use Rattle.storage_bench.proofs.chains.chain_of.Goals as goal

pub returns : goal.returns
returns c = record { links = c.in_ok-mediums.ensures; mediums = c.new.ensures table.Medium; addresses = c.new.ensures table.Address }
