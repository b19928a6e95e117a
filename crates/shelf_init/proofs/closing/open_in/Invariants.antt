use Rattle.shelf_init.proofs.Prelude.{◌≡◌, ℕ, ◌+◌, ◌*◌, ◌<◌, ◌≤◌, length, slice_index_or, false, is_open, gate_place, DRIVE_FLAGS, REGION_BYTES, slot_in}
use Rattle.shelf_init.proofs.closing.open_in.Given as goal

abbrev pub invariant-loop-drive : goal.invariant-loop-drive
invariant-loop-drive l = record {
  size : length l.found ≡ DRIVE_FLAGS;
  passed : (i : ℕ) → i < l.drive → slice_index_or l.found i false ≡ is_open (REGION_BYTES * i + gate_place (slot_in l.fn.slot)) l.regions.bytes.items;
  ahead : (i : ℕ) → l.drive ≤ i → slice_index_or l.found i false ≡ false;
}
