-- What a map of a record and its tables tells, and what taking units of it leaves.
use Rattle.std.specs.Prelude.{◌≡◌, ◌↔◌, ℕ, ◌<◌, true, false, List, ◌++◌, length}
use Rattle.array_spec.specs.Prelude.{Facts, Place, SEGMENT_SHARDS, BootRecord, ArePlaces}
use Rattle.std.specs.List.{AllByRecursion}
use Rattle.array_spec.specs.Counts as counts
use Rattle.unit_map.specs.declared.drive.Drive.{Drive}
use Rattle.unit_map.specs.Prelude.{is_free, with_units, IsTaken, IsGroups}
use Rattle.free_space.specs.Map.{IsMapOf, IsMapBut, shelf_of, unit_at, is_member}

-- a unit is free in the map exactly where no segment of the tables uses it
abbrev pub FreeInTheTables : Type 0
FreeInTheTables = (boot : BootRecord) (facts : Facts) (drives : List Drive) (slot unit : ℕ) → IsMapOf boot facts drives → slot < boot.slots
    → (is_free drives (unit_at slot unit) ≡ true) ↔ counts.IsFree boot facts slot unit

-- the map has room for as many groups as the free units of the members
abbrev pub GroupsOfTheTables : Type 0
GroupsOfTheTables = (boot : BootRecord) (facts : Facts) (drives : List Drive) (groups : ℕ) → IsMapOf boot facts drives
    → IsGroups drives groups ↔ counts.IsGroups (counts.free_of_members boot facts) groups

-- units that may be given to a segment: free ones of members, by ascending slot
pub record AreUnitsToTake (boot : BootRecord) (facts : Facts) (places : List Place) : Type 0 where
  pub lawful : ArePlaces (shelf_of boot) places
  pub free : AllByRecursion (λ p. counts.IsFree boot facts p.slot p.unit) places
  pub members : AllByRecursion (λ p. is_member boot p.slot ≡ true) places

-- so are nine that are taken of a map, also where other units were taken before
abbrev pub TakenUnitsAreFree : Type 0
TakenUnitsAreFree = (boot : BootRecord) (facts : Facts) (others : List Place) (drives : List Drive) (places : List Place) → length places ≡ SEGMENT_SHARDS
    → IsMapBut boot facts others drives → IsTaken drives places → AreUnitsToTake boot facts places

-- the map without them is the one but for them too
abbrev pub TakenUnitsAreUsed : Type 0
TakenUnitsAreUsed = (boot : BootRecord) (facts : Facts) (others : List Place) (drives : List Drive) (places : List Place)
    → IsMapBut boot facts others drives → IsTaken drives places → IsMapBut boot facts (others ++ places) (with_units false drives places)
