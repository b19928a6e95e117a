use Rattle.boot_region.proofs.Prelude.{◌≡◌, ℕ, ◌<◌, ◌≤◌, length, slice_index_or, false, Device, drive, IsSame, Ran, IsDrive, IsRead, AnswerCounts}
use Rattle.boot_region.proofs.reading.read_regions.Given as goal

abbrev pub invariant-loop-drive : goal.invariant-loop-drive
invariant-loop-drive g l =
    let a = g.S.Shelf.shelf l.initial.shelf in
    let b = g.S.Shelf.shelf l.shelf in
    record {
      ran : Ran g.S.Shelf.shelf g.S.Shelf.shelf_rest IsDrive (λ d i. ⊥) l.initial.shelf l.shelf;
      drives : length l.regions.answered.items ≡ a.drives;
      same : a.honest → (device : Device) → IsSame (a.disk device) (b.disk device);
      looks : (device : Device) → (b.disk device).write_faults ≡ (a.disk device).write_faults;
      passed : a.honest → (i : ℕ) → i < l.drive → IsRead a b l.regions.bytes.items l.regions.answered.items i;
      counts : (i : ℕ) → i < l.drive → AnswerCounts (slice_index_or l.regions.answered.items i false) (a.disk (drive i)) (b.disk (drive i));
      ahead : (i : ℕ) → l.drive ≤ i → b.disk (drive i) ≡ a.disk (drive i);
    }
