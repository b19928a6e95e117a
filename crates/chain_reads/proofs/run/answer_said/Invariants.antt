use Rattle.chain_reads.proofs.Prelude.{◌≡◌, ℕ, ◌<◌, Some, None, slice_index_or, AddressFact}
use Rattle.chain_reads.proofs.run.answer_said.Given as goal

abbrev pub invariant-loop-j : goal.invariant-loop-j
invariant-loop-j l = (k : ℕ) → k < l.j → (a : AddressFact) × (slice_index_or l.said k None ≡ Some a) × (slice_index_or l.out k None ≡ Some a.target)
