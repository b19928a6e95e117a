-- What a call on each member writes, and what it leaves of each.
use Rattle.std.specs.Prelude.{◌≡◌, ◌⊎◌, ℕ, List, [], Bool, true, false, slice_index_or}
use Rattle.array_spec.specs.Prelude.{Device, Drive, Nv, SECTOR_BYTES, drive, is_open, RECORD_BYTES, BootSlot, gate_place, body_place}
use Rattle.world.specs.Prelude.{Rises, Shelved, Disk, IsIn, Written}

-- the drive in that slot is a member
abbrev pub IsMember : List Bool → ℕ → Type 0
IsMember members i = slice_index_or members i false ≡ true

-- the device is a member
abbrev pub IsOneOf : List Bool → Device → Type 0
IsOneOf members (Drive d) = IsMember members d.0
IsOneOf members (Nv v) = ⊥

-- the device is a drive
abbrev pub IsDrive : Device → Type 0
IsDrive (Drive d) = Unit {0}
IsDrive (Nv v) = ⊥

-- a device that isn't a member stays as it was
abbrev pub NonMembersStay : List Bool → Shelved → Shelved → Type 0
NonMembersStay members old new = (device : Device) → (IsOneOf members device → ⊥) → new.disk device ≡ old.disk device

-- the n bytes from there on, on each member
abbrev pub OnMembers : List Bool → ℕ → ℕ → Device → ℕ → Type 0
OnMembers members at n (Drive d) i = IsMember members d.0 × IsIn (record { start = at; size = n }) i
OnMembers members at n (Nv v) i = ⊥

-- the gate and the body of a slot, on each member
abbrev pub OnSlot : List Bool → BootSlot → Device → ℕ → Type 0
OnSlot members slot device i = OnMembers members (gate_place slot) SECTOR_BYTES device i ⊎ OnMembers members (body_place slot) RECORD_BYTES device i

-- a write or a sync failed, so that both counts rose
pub record LostWrites (old new : Disk) : Type 0 where
  pub faults : Rises old.faults new.faults
  pub write_faults : Rises old.write_faults new.write_faults

-- a member holds the bytes and stays one, with no write lost, or a write on it failed
pub record Outcome (honest was is : Type 0) (at : ℕ) (from : List ℕ) (old new : Disk) : Type 0 where
  pub before : is → was
  pub written : honest → is → Written at from old.bytes new.bytes
  pub clean : honest → is → new.dirty ≡ []
  pub dropped : was → is ⊎ LostWrites old new
  pub unlost : is → new.write_faults ≡ old.write_faults

-- the gate was open, or a call on the device failed
abbrev pub IsNotShut : ℕ → List ℕ → ℕ → ℕ → Type 0
IsNotShut at bytes before now = (is_open at bytes ≡ true) ⊎ Rises before now

-- a gate's sector on one device, where the gate isn't shut
abbrev pub OneNotShut : Disk → ℕ → Device → ℕ → Device → ℕ → Type 0
OneNotShut disk faults device at d i = (d ≡ device) × IsIn (record { start = at; size = SECTOR_BYTES }) i × IsNotShut at disk.bytes disk.faults faults

-- the gates' sectors of the members where they aren't shut
abbrev pub OnNotShut : List Bool → Shelved → (Device → ℕ) → ℕ → Device → ℕ → Type 0
OnNotShut members shelf faults at (Drive d) i =
    IsMember members d.0 × IsIn (record { start = at; size = SECTOR_BYTES }) i × IsNotShut at (shelf.disk (Drive d)).bytes (shelf.disk (Drive d)).faults (faults (Drive d))
OnNotShut members shelf faults at (Nv v) i = ⊥

-- the gate of a member is closed, with no write lost, or a write on it failed
pub record Closed (honest was is : Type 0) (at : ℕ) (old new : Disk) : Type 0 where
  pub before : is → was
  pub closed : honest → is → is_open at new.bytes ≡ false
  pub clean : honest → is → old.dirty ≡ [] → new.dirty ≡ []
  pub dropped : was → is ⊎ LostWrites old new
  pub unlost : is → new.write_faults ≡ old.write_faults

-- a gate's sector on one device, where the gate is closed
abbrev pub OneClosed : List ℕ → Device → ℕ → Device → ℕ → Type 0
OneClosed bytes device at d i = (d ≡ device) × IsIn (record { start = at; size = SECTOR_BYTES }) i × (is_open at bytes ≡ false)

-- the gates' sectors of the members where they are closed
abbrev pub OnClosed : List Bool → Shelved → ℕ → Device → ℕ → Type 0
OnClosed members shelf at (Drive d) i = IsMember members d.0 × IsIn (record { start = at; size = SECTOR_BYTES }) i × (is_open at (shelf.disk (Drive d)).bytes ≡ false)
OnClosed members shelf at (Nv v) i = ⊥

-- the gate of a member is open, with no write lost, or a call on its device failed
pub record Opened (honest was is : Type 0) (at : ℕ) (old new : Disk) : Type 0 where
  pub before : is → was
  pub opened : honest → is → is_open at new.bytes ≡ true
  pub clean : honest → is → old.dirty ≡ [] → new.dirty ≡ []
  pub dropped : was → is ⊎ Rises old.faults new.faults
  pub unlost : is → new.write_faults ≡ old.write_faults

-- a member that isn't one any more failed in a write or a sync
abbrev pub DroppedFailed : Shelved → Shelved → List Bool → List Bool → Type 0
DroppedFailed old new was now = (i : ℕ) → IsMember was i → IsMember now i ⊎ LostWrites (old.disk (drive i)) (new.disk (drive i))

-- None joins the members. One leaves only where a write or a sync of it failed, and of one that stays none did.
pub record LosesOnlyFailed (old new : Shelved) (was now : List Bool) : Type 0 where
  pub fewer : (i : ℕ) → IsMember now i → IsMember was i
  pub dropped : DroppedFailed old new was now
  pub unlost : (i : ℕ) → IsMember now i → (new.disk (drive i)).write_faults ≡ (old.disk (drive i)).write_faults
