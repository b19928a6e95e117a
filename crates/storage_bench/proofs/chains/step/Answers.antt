use Rattle.pyramid.specs.Prelude.{is_within}
use Rattle.storage_bench.proofs.LinkLemmas.{links_disjoint}
use Rattle.storage_bench.proofs.chains.step.Goals as goal

pub step-requires-clause-disjoint : goal.step-requires-clause-disjoint
step-requires-clause-disjoint c = links_disjoint 10000 c.args.chain.now.mediums.facts c.requires.links (is_within _) c.args.medium.0
