-- Sectors that were placed stand on the drives, and what memory reads of them stands there too.
use Rattle.std.specs.Prelude.{◌≡◌, ◌⊎◌, ℕ, ◌<◌, Bool, true, false, List, [], Some, None, slice_index_or}
use Rattle.array_spec.specs.Prelude.{Geometry, Image, View, drive, Facts, Array, segment, SegmentFact, AnyFact, BootRecord, BootSlot, SectorStands, StripesStand, PatchesStand, all_facts, AreSound, AreAddressesSound, BaseStands, TablesHold, DataHolds, AreSomeOf, AreEnough}
use Rattle.memory_spec.specs.Memory.{Contents, FactsRead}

-- each sector that was placed in a visible segment stands where the segment lies
abbrev pub ContentsStand : Contents → View → Facts → Type 0
ContentsStand contents members facts =
    (id index : ℕ) (d : SegmentFact) → segment facts id ≡ Some d → index < d.placed → SectorStands members d.places index (contents id index)

-- What the facts read as, with nothing staged, stands on the drives.
abbrev pub BaseIsRead : Type 0
BaseIsRead = (contents : Contents) (members : View) (facts : Facts) (next : ℕ) (array : Array)
    → AreAddressesSound facts → ContentsStand contents members facts → FactsRead contents [] facts next array → BaseStands members facts next array

-- on enough of such members the patches stand, and so do the sectors of each visible segment
abbrev pub WrittenOn : (View → Type 0) → Geometry → BootRecord → List (List AnyFact) → Contents → Type 0
WrittenOn Are shelf boot patches contents =
    (members : View) → Are members → AreEnough shelf members
    → PatchesStand members boot patches
    × ((id : ℕ) (d : SegmentFact) → segment (all_facts patches) id ≡ Some d → StripesStand members d.places d.placed)
    × ContentsStand contents members (all_facts patches)

-- some of these drives, as they are
abbrev pub AreAmong : List Bool → Image → View → Type 0
AreAmong drives image members = (i : ℕ) → (members (drive i) ≡ None) ⊎ ((slice_index_or drives i false ≡ true) × (members (drive i) ≡ Some (image (drive i))))

-- Sound patches that were written with their sectors, and read as the array, hold it: on the drives that show their record,
abbrev pub WrittenHolds : Type 0
WrittenHolds = (shelf : Geometry) (image : Image) (slot : BootSlot) (boot : BootRecord) (patches : List (List AnyFact)) (contents : Contents) (base : Array)
    → AreSound shelf boot patches → FactsRead contents [] (all_facts patches) boot.next.object base
    → WrittenOn (AreSomeOf slot boot image) shelf boot patches contents → TablesHold shelf image slot boot patches base

-- and on these drives, before any shows it.
abbrev pub WrittenDataHolds : Type 0
WrittenDataHolds = (shelf : Geometry) (drives : List Bool) (image : Image) (boot : BootRecord) (patches : List (List AnyFact)) (contents : Contents) (base : Array)
    → AreSound shelf boot patches → FactsRead contents [] (all_facts patches) boot.next.object base
    → WrittenOn (AreAmong drives image) shelf boot patches contents → DataHolds shelf drives image boot patches base
