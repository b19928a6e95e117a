-- The boot units that were read of each drive, as a view of the drives.
use Rattle.std.specs.Prelude.{◌≡◌, ◌⊎◌, ℕ, ◌*◌, ◌<◌, ◌≤◌, Bool, true, false, List, length, map, Option, Some, None, slice_index_or, option_and_then, if◌then◌else◌, bytes_eq}
use Rattle.std.specs.List.{range_with_len}
use Rattle.array_spec.specs.Prelude.{bytes_at, Geometry, View, drive, Drive, Nv, BootSlot, A, B, IsDecided, generation_in, body_in, shown_by, votes}
use Rattle.boot_region.specs.declared.regions.TheConstants.{REGION_BYTES}
use Rattle.world.specs.Prelude.{Rises, Shelved, Disk}

-- what a drive showed, where it answered: the regions stand one behind another
unfoldable pub region_at : List ℕ → List Bool → ℕ → Option (List ℕ)
region_at bytes answered i = if slice_index_or answered i false then Some (bytes_at (REGION_BYTES * i) REGION_BYTES bytes) else None

-- each drive by its region alone
abbrev pub seen : List ℕ → List Bool → View
seen bytes answered (Drive d) = region_at bytes answered d.0
seen bytes answered (Nv n) = None

-- the body that a drive shows in the slot
unfoldable pub vote_of : List ℕ → List Bool → BootSlot → ℕ → Option (List ℕ)
vote_of bytes answered slot i = option_and_then (shown_by slot) (region_at bytes answered i)

-- the bodies that the drives show in the slot
unfoldable pub all_votes : List ℕ → List Bool → BootSlot → List (Option (List ℕ))
all_votes bytes answered slot = map (vote_of bytes answered slot) (range_with_len 0 (length answered))

-- no body has more than half of the votes
abbrev pub IsUndecided : List (Option (List ℕ)) → Type 0
IsUndecided votes = (body : List ℕ) → IsDecided votes body → ⊥

-- no body is decided in either slot
abbrev pub GivesNone : Geometry → View → Type 0
GivesNone shelf view = (slot : BootSlot) → IsUndecided (votes shelf view slot)

-- of two bodies, that of slot B where its generation is the higher one, else that of slot A
abbrev pub IsNewerOf : List ℕ → List ℕ → BootSlot → List ℕ → Type 0
IsNewerOf a b A body = (body ≡ a) × (generation_in b ≤ generation_in a)
IsNewerOf a b B body = (body ≡ b) × (generation_in a < generation_in b)

-- the drive answered with its boot units, or a read of it failed
abbrev pub IsRead : Shelved → Shelved → List ℕ → List Bool → ℕ → Type 0
IsRead old new bytes answered i = (region_at bytes answered i ≡ Some (bytes_at 0 REGION_BYTES (old.disk (drive i)).bytes))
    ⊎ ((region_at bytes answered i ≡ None) × Rises (old.disk (drive i)).faults (new.disk (drive i)).faults)

-- no call on the device failed, as its counts tell
pub record CountsStay (old new : Disk) : Type 0 where
  pub faults : new.faults ≡ old.faults
  pub write_faults : new.write_faults ≡ old.write_faults

-- a drive answered and no call on it failed, or its count of faults rose
abbrev pub AnswerCounts : Bool → Disk → Disk → Type 0
AnswerCounts true old new = CountsStay old new
AnswerCounts false old new = Rises old.faults new.faults

-- whether the body stands in the slot of a region, behind a gate in whatever state
abbrev pub is_body_in : BootSlot → List ℕ → Option (List ℕ) → Bool
is_body_in slot body None = false
is_body_in slot body (Some region) = bytes_eq (body_in slot region) body

-- whether it stands on a drive that answered
unfoldable pub is_holding : List ℕ → List Bool → BootSlot → List ℕ → ℕ → Bool
is_holding bytes answered slot body i = is_body_in slot body (region_at bytes answered i)
