-- Units for new segments.
use Rattle.std.specs.Prelude.{List, [], AllPairs}
use Rattle.std.specs.List.{AllByRecursion, flat_map}
use Rattle.memory_spec.specs.Prelude.{Facts, Place, BootRecord, AreApart}
use Rattle.unit_map.specs.declared.drive.Drive.{Drive}
use Rattle.free_space.specs.Map.{IsMapOf, IsMapBut}
use Rattle.free_space.specs.Laws.{AreUnitsToTake}

-- units of several segments: each has free ones of members, and no unit is in two
pub record AreNewUnits (boot : BootRecord) (facts : Facts) (units : List (List Place)) : Type 0 where
  pub each : AllByRecursion (AreUnitsToTake boot facts) units
  pub apart : AllPairs AreApart units

-- the units of several segments, in one list
abbrev pub all_units : List (List Place) → List Place
all_units units = flat_map (λ places. places) units

-- the map of the record and its tables, once these units were taken of it
pub record IsMapAfter (boot : BootRecord) (facts : Facts) (units : List (List Place)) (drives : List Drive) : Type 0 where
  pub map : IsMapBut boot facts (all_units units) drives
  pub new : AreNewUnits boot facts units

-- at first none was taken
abbrev pub NoneIsTaken : Type 0
NoneIsTaken = (boot : BootRecord) (facts : Facts) (drives : List Drive) → IsMapOf boot facts drives → IsMapAfter boot facts [] drives
