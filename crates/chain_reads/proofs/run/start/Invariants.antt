use Rattle.chain_reads.proofs.Prelude.{◌≡◌, ℕ, ◌<◌, At, behind, cursor_at}
use Rattle.chain_reads.proofs.run.start.Given as goal

abbrev pub invariant-loop-j : goal.invariant-loop-j
invariant-loop-j l = (k : ℕ) → k < l.j → cursor_at l.cursors k ≡ At (behind l.from k)
