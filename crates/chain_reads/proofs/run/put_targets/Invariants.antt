use Rattle.chain_reads.proofs.Prelude.{◌≡◌, ℕ, ◌<◌, get_or, Some, AddressFact}
use Rattle.pyramid.specs.Prelude.{Zero}
use Rattle.std.specs.Prelude.{slice_get}
use Rattle.chain_reads.proofs.run.put_targets.Given as goal

abbrev pub invariant-loop-i : goal.invariant-loop-i
invariant-loop-i l = (j : ℕ) (a : AddressFact) → j < l.i → slice_get l.run j ≡ Some a → get_or l.out j Zero ≡ a.target
