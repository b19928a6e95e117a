-- The units of a segment on the drives of a shelf.
use Rattle.std.specs.Prelude.{◌≡◌, ℕ, ◌+◌, ◌*◌, ◌<◌, ◌≤◌, List, length, slice_index_or}
use Rattle.world.specs.Prelude.{Device, UNIT_BYTES, BOOT_UNITS, SEGMENT_SHARDS, Place, drive, Shelved, OneRange}
use Rattle.segment_codec.specs.declared.position.TheConstants.{WRITE_UNIT_BYTES}

-- a unit of the shelf behind the boot region
pub record IsPlace (shelf : Shelved) (place : Place) : Type 0 where
  pub slot : place.slot < shelf.drives
  pub data_unit : BOOT_UNITS ≤ place.unit
  pub unit : place.unit < shelf.units

-- the unit of a shard
abbrev pub place_of : List Place → ℕ → Place
place_of places shard = slice_index_or places shard (record { slot = 0; unit = 0 })

-- the drive of a shard
abbrev pub drive_of : List Place → ℕ → Device
drive_of places shard = drive (place_of places shard).slot

-- nine units, by ascending slot
pub record ArePlaces (shelf : Shelved) (places : List Place) : Type 0 where
  pub nine : length places ≡ SEGMENT_SHARDS
  pub each : (shard : ℕ) → shard < SEGMENT_SHARDS → IsPlace shelf (place_of places shard)
  pub ascending : (first second : ℕ) → first < second → second < SEGMENT_SHARDS → (place_of places first).slot < (place_of places second).slot

-- where a write unit of a unit stands on its drive: 0 is the header, and the stripes follow
abbrev pub write_unit_at : Place → ℕ → ℕ
write_unit_at place n = UNIT_BYTES * place.unit + WRITE_UNIT_BYTES * n

-- so many write units from the n-th on, in each of the nine units
abbrev pub OnUnits : List Place → ℕ → ℕ → Device → ℕ → Type 0
OnUnits places n count device i = (shard : ℕ) × (shard < SEGMENT_SHARDS) × OneRange (drive_of places shard) (write_unit_at (place_of places shard) n) (WRITE_UNIT_BYTES * count) device i

-- it is the drive of one of the nine units
abbrev pub IsOnPlace : List Place → Device → Type 0
IsOnPlace places device = (shard : ℕ) × (shard < SEGMENT_SHARDS) × (device ≡ drive_of places shard)

-- a device that has none of the nine units stays as it was
abbrev pub OthersStayOf : List Place → Shelved → Shelved → Type 0
OthersStayOf places old new = (device : Device) → (IsOnPlace places device → ⊥) → new.disk device ≡ old.disk device
