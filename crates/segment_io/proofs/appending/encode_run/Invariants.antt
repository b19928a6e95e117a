use Rattle.segment_io.proofs.Prelude.{ℕ, ◌<◌, IsCodeword, shards_in}
use Rattle.segment_io.proofs.appending.encode_run.Given as goal

abbrev pub invariant-loop-number : goal.invariant-loop-number
invariant-loop-number l = (k : ℕ) → k < l.number → IsCodeword (shards_in l.stripes l.p l.q k)
