-- What a snapshot, a clone and a copy make of memory that is sound and reads as an array.
use Rattle.std.specs.Prelude.{◌≡◌, ℕ, ◌+◌, ◌<◌, ◌≤◌, true, false, List, length, Contains}
use Rattle.array_spec.specs.Prelude.{is_name, Array, replaced, appended, sectors_of, objects, OBJECTS, Volume, ObjectFact, AreNext}
use Rattle.memory_spec.specs.Prelude.{span, facts, Memory, Contents, FactsRead, IsSound, ReadsAs}
use Rattle.command_spec.specs.Deriving.{Derived, snapshot_of, clone_of, copy_of, HasDerived, IsDerived}
use Rattle.command_spec.specs.Soundness.{MayDerive}

-- ---- a new name

-- the object is visible, the name is lawful and free, there is room for one object more, and numbers are left
pub record MayBeNamed (m : Memory) (x : ObjectFact) (name : List ℕ) (d : Derived) : Type 0 where
  pub there : Contains (objects (facts m.tables) m.next.object) x
  pub lawful : is_name name ≡ true
  pub free : (y : ObjectFact) → Contains (objects (facts m.tables) m.next.object) y → y.name ≡ name → ⊥
  pub few : length (objects (facts m.tables) m.next.object) < OBJECTS
  pub left : AreNext d.next

abbrev pub SnapshotMayBe : Type 0
SnapshotMayBe = (m : Memory) (x : ObjectFact) (name : List ℕ) → IsSound m → MayBeNamed m x name (snapshot_of m.next x name) → MayDerive m (snapshot_of m.next x name)

abbrev pub CloneMayBe : Type 0
CloneMayBe = (m : Memory) (x : ObjectFact) (name : List ℕ) → IsSound m → MayBeNamed m x name (clone_of m.next x name) → MayDerive m (clone_of m.next x name)

-- Memory stays sound, and reads as the array with the snapshot.
abbrev pub SnapshotReads : Type 0
SnapshotReads = (contents : Contents) (was now : Memory) (x : ObjectFact) (name : List ℕ) (array : Array)
    → ReadsAs contents was array → MayBeNamed was x name (snapshot_of was.next x name) → HasDerived was now (snapshot_of was.next x name)
    → ReadsAs contents now (appended array name true (sectors_of array x.name))

-- Memory stays sound, and reads as the array with the clone.
abbrev pub CloneReads : Type 0
CloneReads = (contents : Contents) (was now : Memory) (x : ObjectFact) (name : List ℕ) (array : Array)
    → ReadsAs contents was array → MayBeNamed was x name (clone_of was.next x name) → HasDerived was now (clone_of was.next x name)
    → ReadsAs contents now (appended array name false (sectors_of array x.name))

-- ---- a copy

-- both objects are visible, the one that is copied to is a volume, the sectors are theirs, and numbers are left
pub record MayBeCopied (m : Memory) (x : ObjectFact) (lba : ℕ) (y : ObjectFact) (to count : ℕ) : Type 0 where
  pub source : Contains (objects (facts m.tables) m.next.object) x
  pub target : Contains (objects (facts m.tables) m.next.object) y
  pub kind : y.kind ≡ Volume
  pub some : 1 ≤ count
  pub from : lba + count ≤ x.sectors
  pub to_within : to + count ≤ y.sectors
  pub left : AreNext (copy_of m.next x lba y to count).next

abbrev pub CopyMayBe : Type 0
CopyMayBe = (m : Memory) (x : ObjectFact) (lba : ℕ) (y : ObjectFact) (to count : ℕ) → IsSound m → MayBeCopied m x lba y to count → MayDerive m (copy_of m.next x lba y to count)

-- Memory stays sound, and reads as the array with the sectors copied.
abbrev pub CopyReads : Type 0
CopyReads = (contents : Contents) (was now : Memory) (x : ObjectFact) (lba : ℕ) (y : ObjectFact) (to count : ℕ) (array : Array)
    → ReadsAs contents was array → MayBeCopied was x lba y to count → HasDerived was now (copy_of was.next x lba y to count)
    → ReadsAs contents now (replaced array y.name to (span lba count (sectors_of array x.name)))

-- ---- what facts read as

-- the same of the facts alone, once the tables say what was added
abbrev pub SnapshotFactsRead : Type 0
SnapshotFactsRead = (contents : Contents) (was now : Memory) (x : ObjectFact) (name : List ℕ) (array : Array)
    → ReadsAs contents was array → MayBeNamed was x name (snapshot_of was.next x name) → IsDerived (facts was.tables) (facts now.tables) (snapshot_of was.next x name)
    → FactsRead contents was.staged (facts now.tables) (snapshot_of was.next x name).next.object (appended array name true (sectors_of array x.name))

abbrev pub CloneFactsRead : Type 0
CloneFactsRead = (contents : Contents) (was now : Memory) (x : ObjectFact) (name : List ℕ) (array : Array)
    → ReadsAs contents was array → MayBeNamed was x name (clone_of was.next x name) → IsDerived (facts was.tables) (facts now.tables) (clone_of was.next x name)
    → FactsRead contents was.staged (facts now.tables) (clone_of was.next x name).next.object (appended array name false (sectors_of array x.name))

abbrev pub CopyFactsRead : Type 0
CopyFactsRead = (contents : Contents) (was now : Memory) (x : ObjectFact) (lba : ℕ) (y : ObjectFact) (to count : ℕ) (array : Array)
    → ReadsAs contents was array → MayBeCopied was x lba y to count → IsDerived (facts was.tables) (facts now.tables) (copy_of was.next x lba y to count)
    → FactsRead contents was.staged (facts now.tables) (copy_of was.next x lba y to count).next.object (replaced array y.name to (span lba count (sectors_of array x.name)))
