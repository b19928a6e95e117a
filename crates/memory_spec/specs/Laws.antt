-- What a write, a fill, a zeroing and a creation make of memory that is sound and reads as an array.
use Rattle.std.specs.Prelude.{◌≡◌, ℕ, ◌+◌, ◌<◌, ◌≤◌, true, false, List, ◌++◌, length, replicate, Contains}
use Rattle.std.specs.List.{AllZip}
use Rattle.array_spec.specs.Prelude.{is_name, Array, has, replaced, appended, filled, SECTOR_BYTES, OBJECTS, OBJECT_SECTORS, Location, Target, Stored, Volume, ObjectFact, objects, NUMBER_LIMIT}
use Rattle.memory_spec.specs.Memory.{Memory, Contents, TargetReads, ReadsAs}
use Rattle.memory_spec.specs.Adding.{address_facts, HasPut, HasCreated, IsOwnMedium}
use Rattle.memory_spec.specs.Tables.{facts}

-- A volume of the array owns its medium.
abbrev pub VolumesOwn : Type 0
VolumesOwn = (contents : Contents) (m : Memory) (array : Array) (name : List ℕ) (x : ObjectFact) (lba count : ℕ)
    → ReadsAs contents m array → Contains (objects (facts m.tables) m.next.object) x → x.name ≡ name → x.kind ≡ Volume → lba + count ≤ x.sectors
    → IsOwnMedium (facts m.tables) m.next.object name x.medium.0 lba count

-- The sectors of a span were given targets, staged ones or none: memory stays sound, and reads as the array with those sectors.
abbrev pub PuttingReads : Type 0
PuttingReads = (contents : Contents) (was now : Memory) (name : List ℕ) (medium lba : ℕ) (targets : List Target) (sectors more : List (List ℕ)) (array : Array)
    → ReadsAs contents was array
    → IsOwnMedium (facts was.tables) was.next.object name medium lba (length sectors)
    → AllZip (TargetReads contents (was.staged ++ more)) targets sectors
    → ((at : Location) → Contains targets (Stored at) → at.segment.0 ≡ 0)
    → ((sector : List ℕ) → Contains more sector → length sector ≡ SECTOR_BYTES)
    → was.next.sequence + length targets < NUMBER_LIMIT
    → HasPut was now (address_facts medium lba was.next.sequence targets) more
    → ReadsAs contents now (replaced array name lba sectors)

-- A volume was created with the next numbers.
pub record IsNextVolume (m : Memory) (x : ObjectFact) : Type 0 where
  pub object : x.object.0 ≡ m.next.object
  pub medium : x.medium.0 ≡ m.next.medium
  pub number : x.seq.0 ≡ m.next.sequence
  pub kind : x.kind ≡ Volume
  pub name : is_name x.name ≡ true
  pub size : (1 ≤ x.sectors) × (x.sectors ≤ OBJECT_SECTORS)
  pub objects_left : m.next.object + 1 < NUMBER_LIMIT
  pub mediums_left : m.next.medium + 1 < NUMBER_LIMIT
  pub numbers_left : m.next.sequence + 1 < NUMBER_LIMIT

abbrev pub CreatingReads : Type 0
CreatingReads = (contents : Contents) (was now : Memory) (x : ObjectFact) (array : Array)
    → ReadsAs contents was array → IsNextVolume was x → has array x.name ≡ false → length array < OBJECTS
    → HasCreated was now x
    → ReadsAs contents now (appended array x.name false (replicate x.sectors (filled 0)))
