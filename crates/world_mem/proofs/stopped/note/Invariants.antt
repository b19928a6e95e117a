use Rattle.world_mem.proofs.Prelude.{◌≡◌, ◌⊎◌, ℕ, length, slice_index_or, true, false, IsIn}
use Rattle.world_mem.proofs.stopped.note.Given as goal

abbrev pub invariant-loop-i : goal.invariant-loop-i
invariant-loop-i l = record {
  len : length l.marks.items ≡ length l.initial.marks.items;
  each : (i : ℕ) → slice_index_or l.marks.items i false ≡ true → IsIn l.span i ⊎ (slice_index_or l.initial.marks.items i false ≡ true);
}
