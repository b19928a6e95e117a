use Rattle.chain_reads.proofs.Prelude.{◌≡◌, ℕ, ◌<◌, get_or, None}
use Rattle.std.specs.Option.{unwrap_or}
use Rattle.pyramid.specs.Prelude.{Zero}
use Rattle.chain_reads.proofs.run.put_read.Given as goal

abbrev pub invariant-loop-i : goal.invariant-loop-i
invariant-loop-i l = (j : ℕ) → j < l.i → get_or l.out j Zero ≡ unwrap_or (get_or l.read j None) Zero
