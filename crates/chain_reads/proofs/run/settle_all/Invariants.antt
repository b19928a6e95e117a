use Rattle.chain_reads.proofs.Prelude.{◌≡◌, ℕ, ◌<◌, Facts, cursor_at, weight, AllFollow, AreOf}
use Rattle.chain_reads.proofs.run.settle_all.Given as goal

abbrev pub invariant-loop-i : goal.invariant-loop-i
invariant-loop-i l = record {
  follows : (f : Facts) → AreOf f l.chains → AllFollow f l.initial.cursors l.cursors;
  settled : (k : ℕ) → k < l.i → weight (cursor_at l.cursors k) ≡ 0;
}
