-- Segments that are written together, by number.
use Rattle.std.specs.Prelude.{◌≡◌, ◌≢◌, ◌⊎◌, ℕ, ◌<◌, ◌≤◌, true, false, Bool, List, [], length, Some, slice_get}
use Rattle.array_spec.specs.Prelude.{Image, View, drive, Device, SEGMENT_SHARDS, Place, Header, STRIPES}
use Rattle.world.specs.Prelude.{Shelved, Stop}
use Rattle.segment_io.specs.declared.open.Open.{Open}
use Rattle.segment_io.specs.Prelude.{MayBeWritten, header_unit, CleanStay, is_in, ArePlaces, place_of, drive_of, OnUnits, bytes_of, UnitsHold, HoldsStripe, ShowsMost}

-- how many there are, and the header of each with the shard 0
pub record Layout : Type 0 where
  pub count : ℕ
  pub header : ℕ → Header

-- the units of one
abbrev pub units_of : Layout → ℕ → List Place
units_of l number = (l.header number).places

-- ---- what may be written

-- no unit stands in two of them
abbrev pub AreApart : ℕ → (ℕ → List Place) → Type 0
AreApart count units = (number other j k : ℕ) → number ≢ other → number < count → other < count → j < SEGMENT_SHARDS → k < SEGMENT_SHARDS
    → (place_of (units number) j).slot ≡ (place_of (units other) k).slot → (place_of (units number) j).unit ≢ (place_of (units other) k).unit

-- each lies on units of its own, and has a header that can be spelled
pub record MayBeHeaded (shelf : Shelved) (l : Layout) : Type 0 where
  pub places : (number : ℕ) → number < l.count → ArePlaces shelf (units_of l number)
  pub apart : AreApart l.count (units_of l)
  pub headers : (number : ℕ) → number < l.count → MayBeWritten (l.header number)

-- each has so many stripes, one at least
abbrev pub HaveStripes : Layout → (ℕ → ℕ) → Type 0
HaveStripes l stripes = (number : ℕ) → number < l.count → (1 ≤ stripes number) × (stripes number ≤ STRIPES)

-- ---- units and drives

-- it is the drive of a unit of one of them
abbrev pub IsOnSome : ℕ → (ℕ → List Place) → Device → Type 0
IsOnSome count units device = (number shard : ℕ) × (number < count) × (shard < SEGMENT_SHARDS) × (device ≡ drive_of (units number) shard)

-- so many write units from the n-th on, in each of their units
abbrev pub OnSome : ℕ → (ℕ → List Place) → ℕ → ℕ → Device → ℕ → Type 0
OnSome count units n many device i = (number : ℕ) × (number < count) × OnUnits (units number) n many device i

-- each unit is on a drive of the set, and each drive of the set has a unit
pub record AreDrivesOfAll (count : ℕ) (units : ℕ → List Place) (drives : List Bool) : Type 0 where
  pub each : (number shard : ℕ) → number < count → shard < SEGMENT_SHARDS → is_in drives (place_of (units number) shard).slot ≡ true
  pub no_other : (slot : ℕ) → is_in drives slot ≡ true → (number shard : ℕ) × (number < count) × (shard < SEGMENT_SHARDS) × (slot ≡ (place_of (units number) shard).slot)

-- nothing is dirty on their drives, but for lost ones
abbrev pub AreCleanOn : ℕ → (ℕ → List Place) → List Bool → Shelved → Type 0
AreCleanOn count units lost shelf =
    (number shard : ℕ) → number < count → shard < SEGMENT_SHARDS → is_in lost (place_of (units number) shard).slot ≡ false → (shelf.disk (drive_of (units number) shard)).dirty ≡ []

-- a drive on which nothing was dirty is so again, if it isn't lost
abbrev pub StaysClean : List Bool → Shelved → Shelved → Type 0
StaysClean lost old new = (slot : ℕ) → is_in lost slot ≡ false → (old.disk (drive slot)).dirty ≡ [] → (new.disk (drive slot)).dirty ≡ []

-- of the nine drives of each the view shows none that is lost, the others as they stand, and at most two are missing in it
abbrev pub ShowsMostOfAll : Image → ℕ → (ℕ → List Place) → List Bool → View → Type 0
ShowsMostOfAll image count units lost view = (number : ℕ) → number < count → ShowsMost image (units number) lost view

-- ---- what stands

-- the stripes of a segment stand with what they are to hold, but for shards on lost drives
abbrev pub HoldsSegment : Image → List Place → List Bool → ℕ → (ℕ → List (List ℕ) → Type 0) → Type 0
HoldsSegment image places lost count Holds = (stripe : ℕ) → stripe < count → (shards : List (List ℕ)) × HoldsStripe image places lost stripe shards × Holds stripe shards

-- so do those of each
abbrev pub HoldAll : Image → Layout → List Bool → (ℕ → ℕ) → (ℕ → ℕ → List (List ℕ) → Type 0) → Type 0
HoldAll image l lost stripes Holds = (number : ℕ) → number < l.count → HoldsSegment image (units_of l number) lost (stripes number) (Holds number)

-- the header of a segment stands in each of its units, but for lost drives
abbrev pub HoldsHeader : Image → Header → List Bool → Type 0
HoldsHeader image header lost = UnitsHold image header.places lost 0 (header_unit header)

abbrev pub HoldAllHeaders : Image → Layout → List Bool → Type 0
HoldAllHeaders image l lost = (number : ℕ) → number < l.count → HoldsHeader image (l.header number) lost

-- at a stop no header is there yet, or all that the stripes are to hold stands, but for lost drives
abbrev pub ComesInTurn : Shelved → Layout → List Bool → (ℕ → ℕ) → (ℕ → ℕ → List (List ℕ) → Type 0) → Stop → Type 0
ComesInTurn shelf l lost stripes Holds stop =
    ((number shard : ℕ) → number < l.count → shard < SEGMENT_SHARDS → CleanStay shelf (units_of l number) shard 0 1 stop) ⊎ HoldAll stop.image l lost stripes Holds

-- the stripes of all stand as they did
abbrev pub StripesStay : Shelved → Shelved → Layout → List Bool → List Bool → Type 0
StripesStay old new l was now = (number stripe : ℕ) (shards : List (List ℕ)) → number < l.count → stripe < STRIPES
    → HoldsStripe (bytes_of old) (units_of l number) was stripe shards → HoldsStripe (bytes_of new) (units_of l number) now stripe shards

-- All that the stripes are to hold stands, so do the headers, and nothing is dirty there, but for lost drives.
pub record HasWritten (shelf : Shelved) (l : Layout) (lost : List Bool) (stripes : ℕ → ℕ) (Holds : ℕ → ℕ → List (List ℕ) → Type 0) : Type 0 where
  pub holds : HoldAll (bytes_of shelf) l lost stripes Holds
  pub headers : HoldAllHeaders (bytes_of shelf) l lost
  pub synced : AreCleanOn l.count (units_of l) lost shelf

-- ---- open segments

-- the segment is open under that header, with stripes, and every drive that it knows as lost is
pub record IsOpenOf (header : Header) (lost : List Bool) (segment : Open) : Type 0 where
  pub id : segment.id ≡ header.segment
  pub kind : segment.kind ≡ header.kind
  pub places : segment.places ≡ header.places
  pub some : 0 < segment.stripes
  pub known : (slot : ℕ) → is_in segment.lost.drives slot ≡ true → is_in lost slot ≡ true

-- the first of the segments, one behind another
abbrev pub AreOpenOf : Layout → List Bool → List Open → Type 0
AreOpenOf l lost opened = (number : ℕ) (segment : Open) → slice_get opened number ≡ Some segment → IsOpenOf (l.header number) lost segment

-- all of them
pub record AreAllOpen (l : Layout) (lost : List Bool) (opened : List Open) : Type 0 where
  pub count : length opened ≡ l.count
  pub each : AreOpenOf l lost opened
