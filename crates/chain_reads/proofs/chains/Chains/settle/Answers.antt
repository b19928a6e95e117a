use Rattle.chain_reads.proofs.Prelude.{arith}
use Rattle.chain_reads.proofs.chains.Chains.settle.Goals as goal

pub loop-cursors-preserved : goal.loop-cursors-preserved
loop-cursors-preserved c = record {
  follows = λ f h place m x r. c.turn.ensures.follows f h place m x (c.loop-cursors.invariant.follows f h place m x r);
  sinks = λ place. let a = c.turn.ensures.sinks place in let b = c.loop-cursors.invariant.sinks place in omega (arith, a, b);
}
