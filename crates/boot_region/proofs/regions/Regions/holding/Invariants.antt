use Rattle.boot_region.proofs.Prelude.{◌≡◌, ℕ, ◌<◌, ◌≤◌, ◌&&◌, false, length, slice_index_or, slot_in, is_holding}
use Rattle.boot_region.proofs.regions.Regions.holding.Given as goal

abbrev pub invariant-loop-drive : goal.invariant-loop-drive
invariant-loop-drive l = record {
  size : length l.holding ≡ 24;
  passed : (i : ℕ) → i < l.drive → slice_index_or l.holding i false ≡ (slice_index_or l.named i false && is_holding l.self.bytes.items l.self.answered.items (slot_in l.slot) l.body i);
  ahead : (i : ℕ) → l.drive ≤ i → slice_index_or l.holding i false ≡ false;
}
