use Rattle.chain_reads.proofs.Prelude.{◌≡◌, ℕ, ◌<◌, get_or, None, Settled, cursor_at}
use Rattle.chain_reads.proofs.run.answer.Given as goal

abbrev pub invariant-loop-j : goal.invariant-loop-j
invariant-loop-j l = (k : ℕ) → k < l.j → cursor_at l.cursors k ≡ Settled (get_or l.out k None)
