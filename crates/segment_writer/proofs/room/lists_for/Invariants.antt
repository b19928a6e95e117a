use Rattle.segment_writer.proofs.Prelude.{◌≡◌, ◌≤◌, ℕ, [], length, Some, slice_get, Vec, vec_capacity, Global, Patch, Open}
use Rattle.segment_writer.proofs.room.lists_for.Given as goal

abbrev pub invariant-loop-index : goal.invariant-loop-index
invariant-loop-index l = record {
  count : length l.lists.items ≡ l.index;
  none : (i : ℕ) (list : Vec Open Global) → slice_get l.lists.items i ≡ Some list → list.items ≡ [];
  room : (i : ℕ) (p : Patch) (list : Vec Open Global) → slice_get l.patches i ≡ Some p → slice_get l.lists.items i ≡ Some list → length p.segments ≤ vec_capacity list;
}
