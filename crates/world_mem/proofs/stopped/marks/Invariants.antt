use Rattle.world_mem.proofs.Prelude.{◌≡◌, ℕ, length, slice_index_or, true, false, IsInSome}
use Rattle.world_mem.proofs.stopped.marks.Given as goal

abbrev pub invariant-loop-span : goal.invariant-loop-span
invariant-loop-span l = record {
  len : length l.marks.items ≡ l.size;
  each : (i : ℕ) → slice_index_or l.marks.items i false ≡ true → IsInSome l.spans i;
}
