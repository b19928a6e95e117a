use Rattle.shelf_init.proofs.Prelude.{◌≡◌, ℕ, ◌<◌, ◌≤◌, length, slice_index_or, true, false, DRIVE_FLAGS}
use Rattle.shelf_init.proofs.record.all_drives.Given as goal

abbrev pub invariant-loop-slot : goal.invariant-loop-slot
invariant-loop-slot l = record {
  size : length l.drives ≡ DRIVE_FLAGS;
  set : (i : ℕ) → i < l.slot → slice_index_or l.drives i false ≡ true;
  unset : (i : ℕ) → l.slot ≤ i → slice_index_or l.drives i false ≡ false;
}
