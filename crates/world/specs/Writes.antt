-- Which bytes a run of calls writes.
use Rattle.std.specs.Prelude.{◌≡◌, ◌⊎◌, ◌<◌, ◌≤◌, ℕ, List, length, slice_index}
use Rattle.pur_base.specs.declared.device.Device.{Device}
use Rattle.world.specs.Shelf.{Shelved, Stop, Disk, IsIn, IsInSome, IsCountedBy, LeavesOnly}

-- the range on that device
abbrev pub OneRange : Device → ℕ → ℕ → Device → ℕ → Type 0
OneRange device start size d i = (d ≡ device) × IsIn (record { start = start; size = size }) i

-- Only bytes of W are written and made dirty.
pub record ChangesOnly (W : ℕ → Type 0) (old new : Disk) : Type 0 where
  pub size : length new.bytes ≡ length old.bytes
  pub bytes : (i : ℕ) → (W i → ⊥) → slice_index new.bytes i ≡ slice_index old.bytes i
  pub dirty : (i : ℕ) → IsInSome new.dirty i → IsInSome old.dirty i ⊎ W i

-- The bytes are those of the disk, but for dirty ones and those of W.
pub record MayLeaveBut (W : ℕ → Type 0) (disk : Disk) (bytes : List ℕ) : Type 0 where
  pub size : length bytes ≡ length disk.bytes
  pub is_byte : (i : ℕ) → slice_index bytes i < 256
  pub same : (i : ℕ) → (IsInSome disk.dirty i → ⊥) → (W i → ⊥) → slice_index bytes i ≡ slice_index disk.bytes i

-- a stop leaves each device so
pub record LeavesBut (W : Device → ℕ → Type 0) (shelf : Shelved) (stop : Stop) : Type 0 where
  pub bytes : (d : Device) → MayLeaveBut (W d) (shelf.disk d) (stop.image d)
  pub counts : IsCountedBy shelf stop

-- counts never fall
pub record CountsGrow (old new : Shelved) : Type 0 where
  pub faults : (d : Device) → (old.disk d).faults ≤ (new.disk d).faults
  pub write_faults : (d : Device) → (old.disk d).write_faults ≤ (new.disk d).write_faults

-- Only bytes of W are written and made dirty, and a stop at any moment leaves the others as they were.
pub record WritesOnly (W : Device → ℕ → Type 0) (old new : Shelved) : Type 0 where
  pub counts : CountsGrow old new
  pub device : (d : Device) → ChangesOnly (W d) (old.disk d) (new.disk d)
  pub any_moment : LeavesOnly old new (LeavesBut W old)
