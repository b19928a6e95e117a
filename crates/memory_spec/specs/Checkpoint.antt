-- A checkpoint, step by step, and that its record holds the array.
use Rattle.std.specs.Prelude.{◌≡◌, ℕ, Bool, List, []}
use Rattle.std.specs.List.{AllZip}
use Rattle.array_spec.specs.Prelude.{Geometry, Image, Array, Location, SegmentFact, ElisionFact, BootRecord, BootSlot, AreSound, AreSegmentsSound, all_facts, TablesHold, DataHolds, AreSomeOf}
use Rattle.memory_spec.specs.Tables.{facts, patches}
use Rattle.memory_spec.specs.Memory.{Memory, Contents, FactsRead, ReadsAs}
use Rattle.memory_spec.specs.Contents.{WrittenOn, AreAmong}
use Rattle.memory_spec.specs.Whole.{IsWhole, AreLayered, IsNamed}
use Rattle.memory_spec.specs.Flushing.{IsFlush}
use Rattle.memory_spec.specs.Placing.{IsPlacing}
use Rattle.memory_spec.specs.Eliding.{IsEliding}

-- what nothing reaches is elided, then staged sectors are placed, then all is flushed
pub record IsCheckpointed (contents contents2 : Contents) (was now : Memory) : Type 0 where
  pub elisions : List ElisionFact
  pub elided : Memory
  pub eliding : IsEliding was elided elisions
  pub place : ℕ → Location
  pub segments : List SegmentFact
  pub placed : Memory
  pub placing : IsPlacing contents contents2 elided placed place segments
  pub flush : IsFlush placed now
  pub layered : AreLayered now.tables

-- the record names the patches and the next numbers of memory, and its segments are sound
pub record IsRecordOfMemory (shelf : Geometry) (boot : BootRecord) (m : Memory) : Type 0 where
  pub next : boot.next ≡ m.next
  pub patches : AllZip IsNamed boot.patches (patches m.tables)
  pub segments : AreSegmentsSound shelf boot (facts m.tables)

-- After a checkpoint memory has nothing beside its patches, and reads the same.
abbrev pub CheckpointReads : Type 0
CheckpointReads = (contents contents2 : Contents) (was now : Memory) (array : Array) → ReadsAs contents was array → IsCheckpointed contents contents2 was now
    → IsWhole now × ReadsAs contents2 now array

-- A record of memory after a checkpoint is sound.
abbrev pub CheckpointIsSound : Type 0
CheckpointIsSound = (shelf : Geometry) (boot : BootRecord) (contents contents2 : Contents) (was now : Memory) (array : Array)
    → ReadsAs contents was array → IsCheckpointed contents contents2 was now → IsRecordOfMemory shelf boot now
    → AreSound shelf boot (patches now.tables) × FactsRead contents2 [] (all_facts (patches now.tables)) boot.next.object array

-- Once its patches and sectors were written, it holds the array, on the drives that show it,
abbrev pub CheckpointHolds : Type 0
CheckpointHolds = (shelf : Geometry) (image : Image) (slot : BootSlot) (boot : BootRecord) (contents contents2 : Contents) (was now : Memory) (array : Array)
    → ReadsAs contents was array → IsCheckpointed contents contents2 was now → IsRecordOfMemory shelf boot now
    → WrittenOn (AreSomeOf slot boot image) shelf boot (patches now.tables) contents2
    → TablesHold shelf image slot boot (patches now.tables) array

-- and on these drives, before any shows it.
abbrev pub CheckpointDataHolds : Type 0
CheckpointDataHolds = (shelf : Geometry) (drives : List Bool) (image : Image) (boot : BootRecord) (contents contents2 : Contents) (was now : Memory) (array : Array)
    → ReadsAs contents was array → IsCheckpointed contents contents2 was now → IsRecordOfMemory shelf boot now
    → WrittenOn (AreAmong drives image) shelf boot (patches now.tables) contents2
    → DataHolds shelf drives image boot (patches now.tables) array
