use Rattle.storage_bench.specs.Links.{AreLinks}
use Rattle.storage_bench.proofs.chains.linked.Given as goal

abbrev pub invariant-loop-number : goal.invariant-loop-number
invariant-loop-number l = AreLinks l.number l.mediums.facts
