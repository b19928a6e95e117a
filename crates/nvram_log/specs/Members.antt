-- The member devices, and what a write on each of them leaves.
use Rattle.std.specs.Prelude.{◌≡◌, ◌⊎◌, ℕ, ◌<◌, List, [], Bool, true, false, slice_index_or}
use Rattle.world.specs.Prelude.{nvram, Device, Drive, Nv, Rises, Shelved, Disk, IsIn}

-- the flag there is set
abbrev pub IsFlagged : List Bool → ℕ → Type 0
IsFlagged flags i = slice_index_or flags i false ≡ true

-- whether a device is a member
abbrev pub IsMember : List Bool → ℕ → Type 0
IsMember members n = IsFlagged members n

-- some device is a member
abbrev pub IsSome : List Bool → Type 0
IsSome members = IsMember members 0 ⊎ IsMember members 1

-- none joins
abbrev pub IsFewer : List Bool → List Bool → Type 0
IsFewer was now = (n : ℕ) → IsMember now n → IsMember was n

-- a device is a member no longer where a write or a sync of it failed
abbrev pub DroppedFailed : Shelved → Shelved → List Bool → List Bool → Type 0
DroppedFailed old new was now = (n : ℕ) → n < 2 → IsMember was n → IsMember now n ⊎ Rises (old.disk (nvram n)).write_faults (new.disk (nvram n)).write_faults

-- it is a member no longer where a call on it failed
abbrev pub DroppedCounted : Shelved → Shelved → List Bool → List Bool → Type 0
DroppedCounted old new was now = (n : ℕ) → n < 2 → IsMember was n → IsMember now n ⊎ Rises (old.disk (nvram n)).faults (new.disk (nvram n)).faults

-- None joins the members. One leaves only where a write or a sync of it failed, and of one that stays none did.
pub record LosesOnlyFailed (old new : Shelved) (was now : List Bool) : Type 0 where
  pub fewer : IsFewer was now
  pub dropped : DroppedFailed old new was now
  pub counted : DroppedCounted old new was now
  pub unlost : (n : ℕ) → n < 2 → IsMember now n → (new.disk (nvram n)).write_faults ≡ (old.disk (nvram n)).write_faults

-- it is a member device
abbrev pub IsOnMember : List Bool → Device → Type 0
IsOnMember members (Drive d) = ⊥
IsOnMember members (Nv n) = IsMember members n.0

-- it is no drive
abbrev pub IsNvram : Device → Type 0
IsNvram (Drive d) = ⊥
IsNvram (Nv n) = Unit {0}

-- bytes of the member devices
abbrev pub OnMembers : List Bool → Device → ℕ → Type 0
OnMembers members (Drive d) i = ⊥
OnMembers members (Nv n) i = IsMember members n.0

-- the n bytes from there on, on each member
abbrev pub OnRange : List Bool → ℕ → ℕ → Device → ℕ → Type 0
OnRange members at n (Drive d) i = ⊥
OnRange members at n (Nv v) i = IsMember members v.0 × IsIn (record { start = at; size = n }) i

-- A member holds what was written and stays one, with no write lost, or its device failed. The others stay as they were.
pub record Outcome (honest was is holds : Type 0) (old new : Disk) : Type 0 where
  pub before : is → was
  pub written : honest → is → holds
  pub clean : honest → is → new.dirty ≡ []
  pub dropped : was → is ⊎ Rises old.write_faults new.write_faults
  pub counted : was → is ⊎ Rises old.faults new.faults
  pub unlost : is → new.write_faults ≡ old.write_faults
  pub others : (was → ⊥) → new ≡ old
