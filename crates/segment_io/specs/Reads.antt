-- What is read of a segment, and why it may be lost.
use Rattle.std.specs.Prelude.{◌≡◌, ◌⊎◌, ◌↔◌, ℕ, ◌+◌, ◌<◌, true, false, Bool, List, None, Some, slice_index_or}
use Rattle.std.specs.List.{Contains}
use Rattle.world.specs.Prelude.{View, SEGMENT_SHARDS, Device, Place, Rises, has_risen, Shelved, Disk, IsSame}
use Rattle.parity72.specs.Parity.{IsCodeword, shard_of}
use Rattle.segment_io.specs.Lost.{is_in}
use Rattle.segment_io.specs.Places.{place_of, drive_of}
use Rattle.segment_io.specs.Stripes.{bytes_of, unit_in}

-- Reads alone: each device of an honest shelf is as it was, and on none did a write or a sync fail.
pub record OnlyLooks (old new : Shelved) : Type 0 where
  pub same : old.honest → (device : Device) → IsSame (old.disk device) (new.disk device)
  pub write_faults : (device : Device) → (new.disk device).write_faults ≡ (old.disk device).write_faults

-- ---- shards by their numbers

-- whether a shard is unknown
abbrev pub is_unknown : List Bool → ℕ → Bool
is_unknown unknown shard = slice_index_or unknown shard false

-- A part that was to be read from a device is unknown where it was already, or where a call failed. Else it stands in the buffer.
pub record PartRead (honest : Type 0) (was is : Bool) (bytes into : List ℕ) (old new : Disk) : Type 0 where
  pub stays : was ≡ true → is ≡ true
  pub cause : is ≡ true → (was ≡ true) ⊎ Rises old.faults new.faults
  pub counts : is ≡ false → new.faults ≡ old.faults
  pub read : honest → is ≡ false → into ≡ bytes

-- three shards are unknown
pub record ThreeUnknown (unknown : List Bool) : Type 0 where
  pub first : ℕ
  pub second : ℕ
  pub third : ℕ
  pub in_order : (first < second) × (second < third) × (third < SEGMENT_SHARDS)
  pub are : (is_unknown unknown first ≡ true) × (is_unknown unknown second ≡ true) × (is_unknown unknown third ≡ true)

-- these are the unknown shards
abbrev pub AreUnknown : List Bool → List ℕ → Type 0
AreUnknown unknown numbers = (shard : ℕ) → shard < SEGMENT_SHARDS → (is_unknown unknown shard ≡ true) ↔ Contains numbers shard

-- a codeword that agrees with what stands on the drives of the shards that aren't unknown, where no call on them failed
pub record IsOn (old new : Shelved) (places : List Place) (unknown : List Bool) (stripe : ℕ) (whole : List (List ℕ)) : Type 0 where
  pub codeword : IsCodeword whole
  pub agrees : (shard : ℕ) → shard < SEGMENT_SHARDS → is_unknown unknown shard ≡ false → (new.disk (drive_of places shard)).faults ≡ (old.disk (drive_of places shard)).faults
      → unit_in (bytes_of old) places (stripe + 1) shard ≡ shard_of whole shard

-- it wasn't said that the shard is unknown, and no call on its drive failed
abbrev pub HasAnswered : Shelved → Shelved → List Place → (ℕ → Bool) → ℕ → Type 0
HasAnswered old new places said shard = (said shard ≡ false) × (has_risen (old.disk (drive_of places shard)).faults (new.disk (drive_of places shard)).faults ≡ false)

-- a shard whose drive has answered is what stands on it, codeword or not
abbrev pub AreShown : Shelved → Shelved → List Place → (ℕ → Bool) → ℕ → List (List ℕ) → Type 0
AreShown old new places said stripe shards = (shard : ℕ) → shard < SEGMENT_SHARDS → HasAnswered old new places said shard → shard_of shards shard ≡ unit_in (bytes_of old) places (stripe + 1) shard

-- ---- drives

-- three of the nine drives are in the set
pub record HoldsThree (places : List Place) (drives : List Bool) : Type 0 where
  pub first : ℕ
  pub second : ℕ
  pub third : ℕ
  pub in_order : (first < second) × (second < third) × (third < SEGMENT_SHARDS)
  pub are : (is_in drives (place_of places first).slot ≡ true) × (is_in drives (place_of places second).slot ≡ true) × (is_in drives (place_of places third).slot ≡ true)

-- The set holds three of the nine drives. They are exactly those of which it was said, and those on which a call failed.
pub record AreLost (old new : Shelved) (places : List Place) (said : ℕ → Bool) (drives : List Bool) : Type 0 where
  pub three : HoldsThree places drives
  pub no_other : (slot : ℕ) → is_in drives slot ≡ true → (shard : ℕ) × (shard < SEGMENT_SHARDS) × (slot ≡ (place_of places shard).slot)
  pub cause : (shard : ℕ) → shard < SEGMENT_SHARDS → is_in drives (place_of places shard).slot ≡ true → (said shard ≡ true) ⊎ Rises (old.disk (drive_of places shard)).faults (new.disk (drive_of places shard)).faults
  pub reported : (shard : ℕ) → shard < SEGMENT_SHARDS → is_in drives (place_of places shard).slot ≡ false → (said shard ≡ false) × ((new.disk (drive_of places shard)).faults ≡ (old.disk (drive_of places shard)).faults)

-- each of the nine drives that isn't missing, and on which no call failed, is shown as it stands
abbrev pub ShowsAnswering : Shelved → Shelved → List Place → List Bool → View → Type 0
ShowsAnswering old new places missing view = (shard : ℕ) → shard < SEGMENT_SHARDS → is_in missing (place_of places shard).slot ≡ false → (new.disk (drive_of places shard)).faults ≡ (old.disk (drive_of places shard)).faults
    → view (drive_of places shard) ≡ Some (bytes_of old (drive_of places shard))

-- whether the drive of a shard is missing
abbrev pub is_missing_in : List Bool → List Place → ℕ → Bool
is_missing_in missing places shard = is_in missing (place_of places shard).slot

-- unknown are the shards of which it was said, and those on whose drives a call failed
pub record Tried (a b : Shelved) (places : List Place) (said : ℕ → Bool) (now : List Bool) : Type 0 where
  pub cause : (shard : ℕ) → shard < SEGMENT_SHARDS → is_unknown now shard ≡ true → (said shard ≡ true) ⊎ Rises (a.disk (drive_of places shard)).faults (b.disk (drive_of places shard)).faults
  pub counts : (shard : ℕ) → shard < SEGMENT_SHARDS → is_unknown now shard ≡ false → (said shard ≡ false) × ((b.disk (drive_of places shard)).faults ≡ (a.disk (drive_of places shard)).faults)

-- each of the nine drives that isn't missing is shown as it stands
abbrev pub ShowsPresent : Shelved → List Place → List Bool → View → Type 0
ShowsPresent shelf places missing view = (shard : ℕ) → shard < SEGMENT_SHARDS → is_missing_in missing places shard ≡ false → view (drive_of places shard) ≡ Some (bytes_of shelf (drive_of places shard))

-- each of the nine drives is shown as it stands, or not at all; one that is missing, or on which a call failed, isn't shown
abbrev pub ShowsNoOther : Shelved → Shelved → List Place → List Bool → View → Type 0
ShowsNoOther old new places missing view = (shard : ℕ) → shard < SEGMENT_SHARDS → (view (drive_of places shard) ≡ None)
    ⊎ ((view (drive_of places shard) ≡ Some (bytes_of old (drive_of places shard))) × (is_missing_in missing places shard ≡ false) × (has_risen (old.disk (drive_of places shard)).faults (new.disk (drive_of places shard)).faults ≡ false))
