-- What sound memory tells of the array that it reads as.
use Rattle.std.specs.Prelude.{◌≡◌, ℕ, ◌<◌, true, List, [], length, Contains, slice_index_or}
use Rattle.array_spec.specs.Prelude.{Array, has, sectors_of, objects, Reads, Target, ObjectFact, is_snapshot as is_snapshot_kind}
use Rattle.pur_base.specs.Plain.{is_snapshot}
use Rattle.memory_spec.specs.Tables.{facts}
use Rattle.memory_spec.specs.Memory.{Memory, Contents, TargetReads, ReadsAs}

-- the object is the entry of its name
pub record IsEntry (array : Array) (x : ObjectFact) : Type 0 where
  pub there : has array x.name ≡ true
  pub kind : is_snapshot array x.name ≡ is_snapshot_kind x.kind
  pub size : length (sectors_of array x.name) ≡ x.sectors

-- the objects are the entries
pub record AreEntries (visible : List ObjectFact) (array : Array) : Type 0 where
  pub count : length visible ≡ length array
  pub each : (x : ObjectFact) → Contains visible x → IsEntry array x
  pub all : (name : List ℕ) → has array name ≡ true → (x : ObjectFact) × Contains visible x × (x.name ≡ name)

-- Whether the array has a name, and what its entry is, is told by the visible objects.
abbrev pub EntriesRead : Type 0
EntriesRead = (contents : Contents) (m : Memory) (array : Array) → ReadsAs contents m array → AreEntries (objects (facts m.tables) m.next.object) array

-- The sector at a place is that of the target that the place reads as.
abbrev pub SectorsRead : Type 0
SectorsRead = (contents : Contents) (m : Memory) (array : Array) (x : ObjectFact) (place : ℕ) (target : Target) (sector : List ℕ)
    → ReadsAs contents m array → Contains (objects (facts m.tables) m.next.object) x → place < x.sectors
    → Reads (facts m.tables) x.medium.0 place target → TargetReads contents m.staged target sector
    → sector ≡ slice_index_or (sectors_of array x.name) place []

-- Memory reads as one array.
abbrev pub ReadsAsOne : Type 0
ReadsAsOne = (contents : Contents) (m : Memory) (array other : Array) → ReadsAs contents m array → ReadsAs contents m other → array ≡ other
