use Rattle.chain_reads.proofs.Prelude.{arith, below_more}
use Rattle.chain_reads.proofs.run.settle_all.Goals as goal

pub loop-i-preserved : goal.loop-i-preserved
loop-i-preserved c = record {
  follows = λ f h place m x r. c.settle.ensures.follows f h place m x (c.loop-i.invariant.follows f h place m x r);
  settled = below_more _ _ (λ k l. let a = c.settle.ensures.sinks k in let b = c.loop-i.invariant.settled k l in omega (arith, a, b)) c.settle.ensures.settled;
}
