-- Free units, and the counts that a status shows.
use Rattle.std.specs.Prelude.{◌≡◌, ℕ, ◌-◌, ◌*◌, ◌<◌, ◌≤◌, min, Bool, false, ◌&&◌, not, List, map, filter, Option, Some, None, sum_by, count_by, ◌==◌}
use Rattle.std.specs.List.{list_any, range_with_len}
use Rattle.boot_codec.specs.Prelude.{drive, Facts, address, segments, ids_below, BOOT_UNITS, SEGMENT_SHARDS, SEGMENT_SECTORS, Place, Target, Stored, Zero, names}
use Rattle.boot_codec.specs.declared.record.BootRecord.{BootRecord}
use Rattle.array_spec.specs.Sound.{used_places}

-- whether that is the place of this unit
abbrev pub is_place : ℕ → ℕ → Place → Bool
is_place slot unit p = (p.slot == slot) && (p.unit == unit)

-- the unit stands in a segment that the record and its tables name
abbrev pub is_used : BootRecord → Facts → ℕ → ℕ → Bool
is_used boot facts slot unit = list_any (list_any (is_place slot unit)) (used_places boot facts)

-- a unit behind the boot region that no segment uses
pub record IsFree (boot : BootRecord) (facts : Facts) (slot unit : ℕ) : Type 0 where
  pub data_unit : BOOT_UNITS ≤ unit
  pub there : unit < boot.units
  pub unused : is_used boot facts slot unit ≡ false

-- how many units of a drive no segment uses
abbrev pub free_units : BootRecord → Facts → ℕ → ℕ
free_units boot facts slot = count_by (λ unit. not (is_used boot facts slot unit)) (range_with_len BOOT_UNITS (boot.units - BOOT_UNITS))

-- how many units g segments may take of drives with so many free ones
abbrev pub units_for : ℕ → List ℕ → ℕ
units_for g free = sum_by (min g) free

-- the greatest g for which that is at least nine to a segment
pub record IsGroups (free : List ℕ) (g : ℕ) : Type 0 where
  pub enough : SEGMENT_SHARDS * g ≤ units_for g free
  pub greatest : (h : ℕ) → SEGMENT_SHARDS * h ≤ units_for h free → h ≤ g

-- of the member drives
abbrev pub free_of_members : BootRecord → Facts → List ℕ
free_of_members boot facts = map (free_units boot facts) (filter (λ slot. names boot (drive slot)) (range_with_len 0 boot.slots))

-- the sectors placed in visible data segments
abbrev pub stored : Facts → ℕ → ℕ
stored facts next = sum_by (λ d. d.placed) (segments facts next)

-- whether the target is this index of this segment
abbrev pub is_target : ℕ → ℕ → Option Target → Bool
is_target s index None = false
is_target s index (Some Zero) = false
is_target s index (Some (Stored at)) = (at.segment.0 == s) && (at.index == index)

-- a visible address fact points there
abbrev pub is_pointed : Facts → ℕ → ℕ → Bool
is_pointed facts s index = list_any (λ f. is_target s index (address facts f.medium.0 f.sector)) facts.addresses

-- the places in data segments that address facts point to
abbrev pub pointed : Facts → ℕ → ℕ
pointed facts next = sum_by (λ s. count_by (is_pointed facts s) (range_with_len 0 SEGMENT_SECTORS)) (ids_below next)
