-- Sets of drives, and the drives that a call loses.
use Rattle.std.specs.Prelude.{◌≡◌, ◌⊎◌, ℕ, Bool, true, false, List, slice_index_or}
use Rattle.world.specs.Prelude.{Device, drive, Rises, Shelved, Disk}

-- whether the drive of a slot is in the set
abbrev pub is_in : List Bool → ℕ → Bool
is_in drives slot = slice_index_or drives slot false

-- no call on the device failed
pub record SameCounts (old new : Disk) : Type 0 where
  pub faults : new.faults ≡ old.faults
  pub write_faults : new.write_faults ≡ old.write_faults

-- Lost are the drives that were, and those on which a write or a sync failed. On no other did a call fail.
pub record LosesOnly (old new : Shelved) (was now : List Bool) : Type 0 where
  pub stays : (slot : ℕ) → is_in was slot ≡ true → is_in now slot ≡ true
  pub cause : (slot : ℕ) → is_in now slot ≡ true
      → (is_in was slot ≡ true) ⊎ (Rises (old.disk (drive slot)).faults (new.disk (drive slot)).faults × Rises (old.disk (drive slot)).write_faults (new.disk (drive slot)).write_faults)
  pub reported : (slot : ℕ) → is_in now slot ≡ false → SameCounts (old.disk (drive slot)) (new.disk (drive slot))

-- no byte
abbrev pub NoByte : Device → ℕ → Type 0
NoByte device i = ⊥

-- it is a drive of the set
abbrev pub IsOnSlot : List Bool → Device → Type 0
IsOnSlot drives device = (slot : ℕ) × (is_in drives slot ≡ true) × (device ≡ drive slot)

-- a device that isn't of the set stays as it was
abbrev pub OthersStayBut : List Bool → Shelved → Shelved → Type 0
OthersStayBut drives old new = (device : Device) → (IsOnSlot drives device → ⊥) → new.disk device ≡ old.disk device
