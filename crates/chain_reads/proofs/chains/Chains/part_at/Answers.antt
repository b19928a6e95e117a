use Rattle.chain_reads.proofs.ChainLemmas.{disjoint}
use Rattle.chain_reads.proofs.chains.Chains.part_at.Goals as goal

pub step-requires-clause-disjoint : goal.step-requires-clause-disjoint
step-requires-clause-disjoint c =
    let s = c.args.self.now in
    rw c.ranges-2.ensures.value (disjoint c.requires.0 s.mediums.now.facts s.addresses.now.facts s.elided.now c.requires.1 c.args.spot.medium.0)
