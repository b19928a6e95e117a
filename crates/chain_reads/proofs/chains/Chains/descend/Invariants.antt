use Rattle.chain_reads.proofs.Prelude.{◌+◌, ◌≤◌, ◌^◌, length, Facts, AreOf, IsSaidOf, RunReadsOn}
use Rattle.chain_reads.proofs.chains.Chains.descend.Given as goal

abbrev pub invariant-loop-next : goal.invariant-loop-next
invariant-loop-next l = record {
  fits : l.at.sector + length l.said ≤ 2 ^ 32;
  sinks : l.at.medium.0 ≤ l.fn.from.medium.0;
  said : (f : Facts) → AreOf f l.self → IsSaidOf f l.at l.said;
  reads : (f : Facts) → AreOf f l.self → RunReadsOn f l.fn.from l.at (length l.said);
}

abbrev pub decreases-loop-next : goal.decreases-loop-next
decreases-loop-next l = l.at.medium.0
