use Rattle.pur_base.specs.declared.request.Table.TheVariants as table
use Rattle.lower_tests.proofs.GridLemmas.{grid_chains}
use Rattle.lower_tests.proofs.chained.reads.Goals as goal

pub resolve-requires-clause-tables : goal.resolve-requires-clause-tables
resolve-requires-clause-tables c =
    grid_chains c.requires.grid.0 c.args.mediums.now.facts c.args.addresses.now.facts c.new-elided.result c.requires.grid.1 (c.new-elided.ensures table.Medium) (c.new-elided.ensures table.Address)
