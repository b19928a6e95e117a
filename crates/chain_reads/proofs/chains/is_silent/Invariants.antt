use Rattle.chain_reads.proofs.Prelude.{◌≡◌, ℕ, ◌<◌, None, slice_index_or}
use Rattle.chain_reads.proofs.chains.is_silent.Given as goal

abbrev pub invariant-loop-fact : goal.invariant-loop-fact
invariant-loop-fact l = (k : ℕ) → k < l.fact-index → slice_index_or l.said k None ≡ None
