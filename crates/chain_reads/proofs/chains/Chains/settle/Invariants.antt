use Rattle.chain_reads.proofs.Prelude.{Facts, cursor_at, weight, AllFollow, AreOf, NoneRises}
use Rattle.chain_reads.proofs.chains.Chains.settle.Given as goal

abbrev pub invariant-loop-cursors : goal.invariant-loop-cursors
invariant-loop-cursors l = record {
  follows : (f : Facts) → AreOf f l.self → AllFollow f l.initial.cursors l.cursors;
  sinks : NoneRises l.initial.cursors l.cursors;
}

abbrev pub decreases-loop-cursors : goal.decreases-loop-cursors
decreases-loop-cursors l = weight (cursor_at l.cursors l.i)
