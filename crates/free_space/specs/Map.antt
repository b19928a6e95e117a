-- What a map of units says of a record and its tables.
use Rattle.std.specs.Prelude.{◌≡◌, ℕ, ◌<◌, Bool, ◌&&◌, ◌||◌, not, nat_le, nat_lt, List, length}
use Rattle.std.specs.List.{list_any}
use Rattle.array_spec.specs.Prelude.{Geometry, drive, Facts, segments, BOOT_UNITS, Place, SegmentFact, BootRecord, names, is_place, is_used, AreSegmentsSound}
use Rattle.unit_map.specs.declared.drive.Drive.{Drive}
use Rattle.unit_map.specs.Prelude.{drive_at, is_free}

-- the size of a record's shelf
abbrev pub shelf_of : BootRecord → Geometry
shelf_of boot = record { slots = boot.slots; units = boot.units }

-- a unit of the drive of a slot
abbrev pub unit_at : ℕ → ℕ → Place
unit_at slot unit = record { slot = slot; unit = unit }

-- behind the boot region, on a drive of so many units
abbrev pub is_data_unit : ℕ → ℕ → Bool
is_data_unit units unit = nat_le BOOT_UNITS unit && nat_lt unit units

-- So many drives of so many units. A drive counts as a member where it is one, and a data unit is free unless it is used.
pub record IsMapWith (slots units : ℕ) (member : ℕ → Bool) (used : ℕ → ℕ → Bool) (drives : List Drive) : Type 0 where
  pub drive_of_each_slot : length drives ≡ slots
  pub members : (slot : ℕ) → slot < slots → (drive_at drives slot).member ≡ member slot
  pub sizes : (slot : ℕ) → slot < slots → length (drive_at drives slot).free ≡ units
  pub free : (slot unit : ℕ) → slot < slots → is_free drives (unit_at slot unit) ≡ (is_data_unit units unit && not (used slot unit))

-- the record names the drive of a slot
abbrev pub is_member : BootRecord → ℕ → Bool
is_member boot slot = names boot (drive slot)

-- the map of the record and its tables
abbrev pub IsMapOf : BootRecord → Facts → List Drive → Type 0
IsMapOf boot facts drives = IsMapWith boot.slots boot.units (is_member boot) (is_used boot facts) drives

-- whether a unit is used, or is one of these
abbrev pub used_or_among : (ℕ → ℕ → Bool) → List Place → ℕ → ℕ → Bool
used_or_among used places slot unit = used slot unit || list_any (is_place slot unit) places

-- the map of the record and its tables, but for these units, which are used too
abbrev pub IsMapBut : BootRecord → Facts → List Place → List Drive → Type 0
IsMapBut boot facts places drives = IsMapWith boot.slots boot.units (is_member boot) (used_or_among (is_used boot facts) places) drives

-- these are the visible data segments of tables whose segments are sound under the record
pub record AreDataSegments (boot : BootRecord) (data_segments : List SegmentFact) : Type 0 where
  pub tables : Facts
  pub visible : segments tables boot.next.segment ≡ data_segments
  pub sound : AreSegmentsSound (shelf_of boot) boot tables
