use Rattle.chain_reads.proofs.Prelude.{length, ◌-◌, ℕ, ◌+◌, ◌<◌, ◌≤◌, ◌^◌, cursor_at, IsInRun}
use Rattle.chain_reads.proofs.chains.run_end.Given as goal

abbrev pub invariant-loop-end : goal.invariant-loop-end
invariant-loop-end l = record {
  some : l.i < l.end;
  within : l.end ≤ length l.cursors;
  fits : l.from.sector + l.end ≤ 2 ^ 32 + l.i;
  run : (k : ℕ) → l.i + k < l.end → IsInRun l.from.medium.0 (l.from.sector + k) (cursor_at l.cursors (l.i + k));
}

abbrev pub decreases-loop-end : goal.decreases-loop-end
decreases-loop-end l = length l.cursors - l.end
