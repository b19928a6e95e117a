use Rattle.pyramid.specs.Prelude.{is_within}
use Rattle.storage_bench.proofs.LinkLemmas.{links_descend}
use Rattle.storage_bench.proofs.chains.reach.Goals as goal

pub reachable-requires-clause-descending : goal.reachable-requires-clause-descending
reachable-requires-clause-descending g c = links_descend 10000 c.args.chain.now.mediums.facts c.requires.links (is_within _)
