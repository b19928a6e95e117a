use Rattle.storage_bench.proofs.LinkLemmas.{links_chain}
use Rattle.storage_bench.proofs.chains.read.Goals as goal

pub resolve-requires-clause-tables : goal.resolve-requires-clause-tables
resolve-requires-clause-tables c =
    let chain = c.args.chain.now in
    links_chain 10000 chain.mediums.facts c.requires.chain.links chain.addresses.facts chain.elided c.requires.chain.mediums c.requires.chain.addresses
