use Rattle.world_mem.proofs.Prelude.{◌≡◌, ℕ, slice_index, slice_index_or, false}
use Rattle.world_mem.proofs.stopped.choose.Given as goal

abbrev pub invariant-loop-i : goal.invariant-loop-i
invariant-loop-i g l = (i : ℕ) → slice_index_or l.marks i false ≡ false → slice_index l.bytes i ≡ slice_index l.initial.bytes i
