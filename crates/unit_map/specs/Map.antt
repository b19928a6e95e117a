-- The map: its drives by slot, whether each is a member, and which of its units are free.
use Rattle.std.specs.Prelude.{ℕ, Bool, true, false, not, ◌&&◌, ◌≡◌, ◌⊎◌, ◌<◌, ◌≤◌, ◌+◌, ◌*◌, min, List, [], length, map, fold, count_by, sum_by, slice_index_or, slice_set, if◌then◌else◌, All, AllPairs, Contains}
use Rattle.pur_base.specs.declared.limits.TheConstants.{BOOT_UNITS, SEGMENT_SHARDS}
use Rattle.pur_base.specs.declared.place.Place.{Place}
use Rattle.unit_map.specs.declared.drive.Drive.{Drive}
use Rattle.unit_map.specs.Units.{IsLowestFree}

-- ---- reading a map

-- what stands past the last slot
abbrev pub no_drive : Drive
no_drive = record { member = false; free = [] }

-- the drive of a slot
abbrev pub drive_at : List Drive → ℕ → Drive
drive_at drives slot = slice_index_or drives slot no_drive

-- how many units of a drive are free
abbrev pub free_count : Drive → ℕ
free_count drive = count_by (λ free. free) drive.free

-- whether a unit is free
abbrev pub is_free : List Drive → Place → Bool
is_free drives place = slice_index_or (drive_at drives place.slot).free place.unit false

-- a unit of the map, behind the drive's boot region
pub record IsPlace (drives : List Drive) (place : Place) : Type 0 where
  pub slot : place.slot < length drives
  pub boot : BOOT_UNITS ≤ place.unit
  pub unit : place.unit < length (drive_at drives place.slot).free

-- ---- room

-- the units that a drive gives to so many groups: a member gives one at most to each
abbrev pub share : ℕ → Drive → ℕ
share groups drive = if drive.member then min groups (free_count drive) else 0

-- the units that the members give to so many groups
abbrev pub total_at : List Drive → ℕ → ℕ
total_at drives groups = sum_by (share groups) drives

-- the greatest number of groups to which the members give nine units each
pub record IsGroups (drives : List Drive) (groups : ℕ) : Type 0 where
  pub enough : SEGMENT_SHARDS * groups ≤ total_at drives groups
  pub greatest : (more : ℕ) → SEGMENT_SHARDS * more ≤ total_at drives more → more ≤ groups

-- there is room for as many groups as before, or for one less
abbrev pub LowersByOne : List Drive → List Drive → Type 0
LowersByOne old new = (before after : ℕ) → IsGroups old before → IsGroups new after → (after ≤ before) × (before ≤ after + 1)

-- the free units by which a drive is chosen: none where it is no member, or is chosen already
abbrev pub offer : Bool → Drive → ℕ
offer chosen drive = if drive.member && not chosen then free_count drive else 0

-- ---- changing a map

-- the drive with a unit free or used
abbrev pub with_unit_of : Bool → ℕ → Drive → Drive
with_unit_of free unit drive = record drive { free = slice_set drive.free unit free }

-- the map with a unit free or used
abbrev pub with_unit : Bool → List Drive → Place → List Drive
with_unit free drives place = slice_set drives place.slot (with_unit_of free place.unit (drive_at drives place.slot))

-- the map with each of these units free or used
abbrev pub with_units : Bool → List Drive → List Place → List Drive
with_units free drives places = fold (with_unit free) drives places

-- the drive as a member or not
abbrev pub as_member : Bool → Drive → Drive
as_member member drive = record drive { member = member }

-- the map with the drive of a slot a member or not
abbrev pub with_member : List Drive → ℕ → Bool → List Drive
with_member drives slot member = slice_set drives slot (as_member member (drive_at drives slot))

-- ---- a segment's units

-- units of the map that are used, one a drive, by ascending slot
pub record IsHeld (drives : List Drive) (places : List Place) : Type 0 where
  pub ascending : AllPairs (λ a b. a.slot < b.slot) places
  pub within : All (IsPlace drives) places
  pub used : All (λ place. is_free drives place ≡ false) places

-- the drive of one slot has more free units than that of another, or as many and the lower slot
abbrev pub ComesFirst : List Drive → ℕ → ℕ → Type 0
ComesFirst drives a b = (free_count (drive_at drives b) < free_count (drive_at drives a))
    ⊎ ((free_count (drive_at drives a) ≡ free_count (drive_at drives b)) × (a < b))

-- the slots of places
abbrev pub slots_of : List Place → List ℕ
slots_of places = map (λ place. place.slot) places

-- The places stand on the members that come first, by ascending slot, each at its drive's lowest free unit.
pub record IsTaken (drives : List Drive) (places : List Place) : Type 0 where
  pub ascending : AllPairs (λ a b. a.slot < b.slot) places
  pub within : All (IsPlace drives) places
  pub members : All (λ place. (drive_at drives place.slot).member ≡ true) places
  pub first : All (λ place. (slot : ℕ) → (drive_at drives slot).member ≡ true → ¬ Contains (slots_of places) slot → ComesFirst drives place.slot slot) places
  pub lowest : All (λ place. IsLowestFree (drive_at drives place.slot).free place.unit) places
