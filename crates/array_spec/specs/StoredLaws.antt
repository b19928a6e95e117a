-- What a store of tables and a checkpoint need of the definitions.
use Rattle.std.specs.Prelude.{◌≡◌, ℕ, ◌+◌, ◌<◌, ◌≤◌, Bool, true, false, List, slice_index_or, length, take, Contains}
use Rattle.boot_codec.specs.Prelude.{Geometry, Image, View, Conditions, drive, nvram, Array, Command, AllAccepted, after_all, BOOT_UNITS, NVRAM_DEVICES, AnyFact, spelling, BootSlot, IsRecordOf, body_in, names}
use Rattle.boot_codec.specs.declared.record.BootRecord.{BootRecord}
use Rattle.log_codec.specs.Prelude.{ShowsIn}
use Rattle.array_spec.specs.Counts.{IsFree}
use Rattle.array_spec.specs.Stored.{all_facts}
use Rattle.array_spec.specs.Meaning.{TablesStand, HoldsBase, IsInForce}
use Rattle.array_spec.specs.Standing.{Stands, MayBeGiven, IsReadInto, FollowsOn}
use Rattle.array_spec.specs.Laws.{DiffersOnlyIn, IsUnused}
use Rattle.array_spec.specs.Unflushed.{LogLies, NamesSound}
use Rattle.array_spec.specs.Held.{TablesHold, DataHolds, NamesNoneLeftOut}

-- ---- what stands is one

-- a record's patches hold one list of facts in a view
abbrev pub OnePatches : Type 0
OnePatches = (shelf : Geometry) (members : View) (boot : BootRecord) (ps qs : List (List AnyFact)) → TablesStand shelf members boot ps → TablesStand shelf members boot qs → ps ≡ qs

-- and so one array
abbrev pub OneBase : Type 0
OneBase = (shelf : Geometry) (members : View) (boot : BootRecord) (a b : Array) → HoldsBase shelf members boot a → HoldsBase shelf members boot b → a ≡ b

-- ---- a record is read

-- A record whose tables stand, and whose log lies on the NVRAM devices, is read into the arrays that the log may lead to from its base.
abbrev pub RecordIsRead : Type 0
RecordIsRead = (shelf : Geometry) (image : Image) (missing : Conditions) (slot : BootSlot) (boot : BootRecord) (patches : List (List AnyFact)) (base : Array) (least most : List Command) (arrays : List Array)
    → IsRecordOf shelf boot → IsInForce slot boot → NamesSound shelf image missing slot boot → NamesNoneLeftOut missing boot
    → TablesHold shelf image slot boot patches base
    → AllAccepted base most → LogLies image missing boot least most
    → ((n : ℕ) → length least ≤ n → n ≤ length most → Contains arrays (after_all base (take n most)))
    → (r : IsReadInto shelf image missing slot boot arrays) × (r.base ≡ base)

-- ---- a record after another

-- a drive that shows the later one showed the other before
abbrev pub ShowedBefore : BootSlot → BootRecord → Image → BootSlot → BootRecord → Image → Type 0
ShowedBefore slot boot old slot2 next new = (i : ℕ) → names next (drive i) ≡ true → body_in slot2 (new (drive i)) ≡ spelling next
    → (names boot (drive i) ≡ true) × (body_in slot (old (drive i)) ≡ spelling boot)

-- The tables of a record hold by a later one that differs in its generation and its members, once only boot units have changed.
abbrev pub NextHolds : Type 0
NextHolds = (shelf : Geometry) (old new : Image) (slot slot2 : BootSlot) (boot next : BootRecord) (patches : List (List AnyFact)) (base : Array)
    → IsRecordOf shelf boot → next ≡ record boot { generation = next.generation; members = next.members }
    → ShowedBefore slot boot old slot2 next new → DiffersOnlyIn (λ i unit. unit < BOOT_UNITS) old new
    → TablesHold shelf old slot boot patches base → TablesHold shelf new slot2 next patches base

-- Tables that stand on the drives of a record hold by it, once only boot units have changed.
abbrev pub DataIsHeld : Type 0
DataIsHeld = (shelf : Geometry) (drives : List Bool) (old new : Image) (slot2 : BootSlot) (boot next : BootRecord) (patches : List (List AnyFact)) (base : Array)
    → IsRecordOf shelf boot → next ≡ record boot { generation = next.generation; members = next.members }
    → ((i : ℕ) → names next (drive i) ≡ true → slice_index_or drives i false ≡ true) → DiffersOnlyIn (λ i unit. unit < BOOT_UNITS) old new
    → DataHolds shelf drives old boot patches base → TablesHold shelf new slot2 next patches base

-- ---- writes in free units

-- where one record alone may be given, a unit that its tables leave free is used by none
abbrev pub FreeIsUnused : Type 0
FreeIsUnused = (shelf : Geometry) (image : Image) (missing : Conditions) (slot : BootSlot) (boot : BootRecord) (patches : List (List AnyFact)) (base : Array) (at unit : ℕ)
    → NamesSound shelf image missing slot boot → NamesNoneLeftOut missing boot → TablesHold shelf image slot boot patches base
    → ((slot2 : BootSlot) (boot2 : BootRecord) → MayBeGiven shelf image missing slot2 boot2 → (slot2 ≡ slot) × (boot2 ≡ boot))
    → IsFree boot (all_facts patches) at unit → IsUnused shelf image missing at unit

-- and its tables hold whatever is written there
abbrev pub FreeWritesKeep : Type 0
FreeWritesKeep = (shelf : Geometry) (old new : Image) (slot : BootSlot) (boot : BootRecord) (patches : List (List AnyFact)) (base : Array)
    → IsRecordOf shelf boot → DiffersOnlyIn (λ i unit. IsFree boot (all_facts patches) i unit) old new
    → TablesHold shelf old slot boot patches base → TablesHold shelf new slot boot patches base

-- ---- a checkpoint

-- a record that a checkpoint stores: it has flushed all commands of the log, and holds the array that they make
pub record IsCheckpointOf (boot next : BootRecord) (base : Array) (log : List Command) (after_it : Array) : Type 0 where
  pub flushed : next.flushed ≡ boot.flushed + length log
  pub generation : next.generation ≡ boot.generation + 1
  pub result : after_it ≡ after_all base log

-- no NVRAM device that the record names shows a command past what it has flushed
abbrev pub ShowsNone : Image → BootRecord → Type 0
ShowsNone image boot = (n i : ℕ) (c : Command) → n < NVRAM_DEVICES → names boot (nvram n) ≡ true → ¬ (ShowsIn (image (nvram n)) boot.flushed i c)

-- While a record alone may be given, one that a checkpoint made is read into the arrays, one of which is that of the log, and it follows on.
abbrev pub CheckpointFollows : Type 0
CheckpointFollows = (shelf : Geometry) (old new : Image) (missing later : Conditions) (slot slot2 : BootSlot) (boot next : BootRecord) (patches patches2 : List (List AnyFact)) (base after_it : Array) (log : List Command) (arrays : List Array)
    → IsCheckpointOf boot next base log after_it → Contains arrays after_it
    → IsRecordOf shelf next → IsInForce slot2 next → NamesSound shelf new later slot2 next → NamesNoneLeftOut later next → TablesHold shelf new slot2 next patches2 after_it
    → ShowsNone new next
    → NamesSound shelf old missing slot boot → NamesNoneLeftOut missing boot → TablesHold shelf old slot boot patches base
    → ((slot3 : BootSlot) (boot3 : BootRecord) → MayBeGiven shelf old missing slot3 boot3 → (slot3 ≡ slot) × (boot3 ≡ boot))
    → (s : Stands shelf old missing arrays)
    → (r : IsReadInto shelf new later slot2 next arrays) × ((slot3 : BootSlot) (boot3 : BootRecord) (g : MayBeGiven shelf old missing slot3 boot3)
    → FollowsOn shelf new later slot2 next boot3 r.base (s.reads slot3 boot3 g).base × FollowsOn shelf new later slot3 boot3 next (s.reads slot3 boot3 g).base r.base)

-- ---- a merge

-- a record that a merge stores: it has flushed what the one in force has, and the log goes on from the same base
pub record IsMergeOf (boot next : BootRecord) : Type 0 where
  pub flushed : next.flushed ≡ boot.flushed
  pub generation : next.generation ≡ boot.generation + 1

-- While a record alone may be given, one that a merge made is read into the arrays to which the log may lead from the same base, and it follows on.
abbrev pub MergeFollows : Type 0
MergeFollows = (shelf : Geometry) (old new : Image) (missing later : Conditions) (slot slot2 : BootSlot) (boot next : BootRecord) (patches patches2 : List (List AnyFact)) (base : Array) (least most : List Command) (arrays : List Array)
    → IsMergeOf boot next
    → IsRecordOf shelf next → IsInForce slot2 next → NamesSound shelf new later slot2 next → NamesNoneLeftOut later next → TablesHold shelf new slot2 next patches2 base
    → AllAccepted base most → LogLies new later next least most
    → ((n : ℕ) → length least ≤ n → n ≤ length most → Contains arrays (after_all base (take n most)))
    → NamesSound shelf old missing slot boot → NamesNoneLeftOut missing boot → TablesHold shelf old slot boot patches base
    → ((slot3 : BootSlot) (boot3 : BootRecord) → MayBeGiven shelf old missing slot3 boot3 → (slot3 ≡ slot) × (boot3 ≡ boot))
    → (s : Stands shelf old missing arrays)
    → (r : IsReadInto shelf new later slot2 next arrays) × ((slot3 : BootSlot) (boot3 : BootRecord) (g : MayBeGiven shelf old missing slot3 boot3)
    → FollowsOn shelf new later slot2 next boot3 r.base (s.reads slot3 boot3 g).base × FollowsOn shelf new later slot3 boot3 next (s.reads slot3 boot3 g).base r.base)
