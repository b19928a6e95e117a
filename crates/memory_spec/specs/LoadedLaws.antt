-- What tables that were loaded read as.
use Rattle.std.specs.Prelude.{List, [], Some, All}
use Rattle.array_spec.specs.Prelude.{Geometry, Image, View, Array, AnyFact, BootRecord, BootSlot, of_members, IsFact, in_patches, all_facts, AreSound, BaseStands, TablesStand, TablesHold, AreSomeOf, AreEnough}
use Rattle.memory_spec.specs.Memory.{Contents, FactsRead}
use Rattle.memory_spec.specs.Contents.{ContentsStand}

-- Sound tables of lawful facts read as some array, whatever the segments hold.
abbrev pub SoundTablesRead : Type 0
SoundTablesRead = (shelf : Geometry) (boot : BootRecord) (patches : List (List AnyFact)) (contents : Contents)
    → AreSound shelf boot patches → All IsFact (in_patches patches)
    → (base : Array) × FactsRead contents [] (all_facts patches) boot.next.object base

-- Tables that stand on members have contents that stand there too, by which they read as the array that they hold.
abbrev pub StoredTablesRead : Type 0
StoredTablesRead = (shelf : Geometry) (members : View) (boot : BootRecord) (patches : List (List AnyFact)) (base : Array)
    → TablesStand shelf members boot patches → BaseStands members (all_facts patches) boot.next.object base
    → (contents : Contents) × ContentsStand contents members (all_facts patches) × FactsRead contents [] (all_facts patches) boot.next.object base

-- all drives that the record names and on which its body stands, as they are
abbrev pub showing : BootSlot → BootRecord → Image → View
showing slot boot image = of_members slot boot (λ device. Some (image device))

-- Where they are enough, the contents are one for each enough of them.
abbrev pub HeldTablesRead : Type 0
HeldTablesRead = (shelf : Geometry) (image : Image) (slot : BootSlot) (boot : BootRecord) (patches : List (List AnyFact)) (base : Array)
    → TablesHold shelf image slot boot patches base → AreEnough shelf (showing slot boot image)
    → (contents : Contents)
    × ((members : View) → AreSomeOf slot boot image members → AreEnough shelf members → ContentsStand contents members (all_facts patches))
    × FactsRead contents [] (all_facts patches) boot.next.object base
