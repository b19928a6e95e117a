use Rattle.target_io.proofs.Prelude.{◌≡◌, ℕ, ◌<◌, slice_index_or, Zero, target_behind}
use Rattle.target_io.proofs.following.run_length.Given as goal

abbrev pub invariant-loop-i : goal.invariant-loop-i
invariant-loop-i l = (j : ℕ) → j < l.i → slice_index_or l.targets j Zero ≡ target_behind l.at j
