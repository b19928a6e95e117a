-- What an array keeps in memory beside its log, and the plain array that it reads as.
use Rattle.std.specs.Prelude.{◌≡◌, ◌⊎◌, ℕ, zero, suc, ◌<◌, ◌≤◌, List, [], length, Some, IsSome, Contains, slice_get, slice_index_or}
use Rattle.std.specs.List.{AllZip}
use Rattle.array_spec.specs.Prelude.{filled, Entry, Array, Facts, any_number, objects, object, address, segment, Reads, SECTOR_BYTES, OBJECT_SECTORS, SEGMENT_SECTORS, Location, Target, Stored, Zero, ObjectFact, SegmentFact, AnyFact, NextNumbers, AreNext, NUMBER_LIMIT, IsNext, IsFact, is_snapshot, AreIdsBelow, AreObjectsSound, AreMediumsSound, AreElisionsSound}
use Rattle.pur_base.specs.declared.facts.AnyFact.TheVariants as any
use Rattle.memory_spec.specs.Tables.{Tables, facts, all_of}

-- The tables, the sectors that no segment holds yet, and the numbers that are given next. An address of segment 0 names a staged sector: ids of segments begin at 1.
pub record Memory : Type 0 where
  pub tables : Tables
  pub staged : List (List ℕ)
  pub next : NextNumbers

-- ---- what it reads as

-- the sector at each index of each data segment, as it stands on the drives
abbrev pub Contents : Type 0
Contents = ℕ → ℕ → List ℕ

-- the sector of a segment and an index
abbrev pub PlaceReads : Contents → List (List ℕ) → ℕ → ℕ → List ℕ → Type 0
PlaceReads contents staged zero index sector = slice_get staged index ≡ Some sector
PlaceReads contents staged (suc s) index sector = sector ≡ contents (suc s) index

-- the sector that a target stands for
abbrev pub TargetReads : Contents → List (List ℕ) → Target → List ℕ → Type 0
TargetReads contents staged (Stored at) sector = PlaceReads contents staged at.segment.0 at.index sector
TargetReads contents staged Zero sector = sector ≡ filled 0

-- the sector that a medium reads as at a place
abbrev pub SectorReads : Contents → List (List ℕ) → Facts → ℕ → ℕ → List ℕ → Type 0
SectorReads contents staged facts medium place sector = (target : Target) × Reads facts medium place target × TargetReads contents staged target sector

-- the object as an entry of the plain array
pub record EntryReads (contents : Contents) (staged : List (List ℕ)) (facts : Facts) (x : ObjectFact) (e : Entry) : Type 0 where
  pub name : e.name ≡ x.name
  pub snapshot : e.snapshot ≡ is_snapshot x.kind
  pub size : length e.sectors ≡ x.sectors
  pub sectors : (place : ℕ) → place < x.sectors → SectorReads contents staged facts x.medium.0 place (slice_index_or e.sectors place [])

-- the facts read as the array
abbrev pub FactsRead : Contents → List (List ℕ) → Facts → ℕ → Array → Type 0
FactsRead contents staged facts next array = AllZip (EntryReads contents staged facts) (objects facts next) array

-- ---- when it is sound

-- where a sector may stand: staged, or in a segment
abbrev pub FitsTarget : ℕ → Target → Type 0
FitsTarget staged (Stored at) = ((at.segment.0 ≡ 0) × (at.index < staged)) ⊎ ((1 ≤ at.segment.0) × (at.segment.0 < NUMBER_LIMIT) × (at.index < SEGMENT_SECTORS))
FitsTarget staged Zero = Unit {0}

-- as a patch may hold it, but that an address may name a staged sector
abbrev pub FitsInMemory : ℕ → AnyFact → Type 0
FitsInMemory staged (any.Address f) = IsNext f.medium.0 × IsNext f.seq.0 × (f.sector < OBJECT_SECTORS) × FitsTarget staged f.target
FitsInMemory staged f = IsFact f

-- an address names a staged sector, or one that was placed in a visible segment
abbrev pub IsThere : Memory → Location → Type 0
IsThere m at = ((at.segment.0 ≡ 0) × (at.index < length m.staged)) ⊎ ((d : SegmentFact) × (segment (facts m.tables) at.segment.0 ≡ Some d) × (at.index < d.placed))

-- So is each visible one, and a sector that has an address is one of its object's. Keys tell sectors of two mediums apart up to the greatest size.
pub record AreAddressesThere (m : Memory) : Type 0 where
  pub there : (medium sector : ℕ) (at : Location) → address (facts m.tables) medium sector ≡ Some (Stored at) → IsThere m at
  pub within : (id sector : ℕ) (x : ObjectFact) → object (facts m.tables) id ≡ Some x → sector < OBJECT_SECTORS → IsSome (address (facts m.tables) x.medium.0 sector) → sector < x.sectors

-- each number is below the next one, and no two facts have one
pub record AreNumbered (m : Memory) : Type 0 where
  pub below : (f : AnyFact) → Contains (all_of (facts m.tables)) f → any_number f < m.next.sequence
  pub distinct : (f g : AnyFact) → Contains (all_of (facts m.tables)) f → Contains (all_of (facts m.tables)) g → any_number f ≡ any_number g → f ≡ g

-- What is judged of the tables that a record names, of those in memory. That segments lie apart is said beside the record, which names those of the patches.
pub record IsSound (m : Memory) : Type 0 where
  pub next : AreNext m.next
  pub fit : (f : AnyFact) → Contains (all_of (facts m.tables)) f → FitsInMemory (length m.staged) f
  pub sectors : (sector : List ℕ) → Contains m.staged sector → length sector ≡ SECTOR_BYTES
  pub ids : AreIdsBelow m.next (facts m.tables)
  pub objects : AreObjectsSound (facts m.tables) m.next.object
  pub mediums : AreMediumsSound (facts m.tables)
  pub addresses : AreAddressesThere m
  pub elisions : AreElisionsSound (facts m.tables).elisions
  pub numbers : AreNumbered m

-- it is sound, and reads as the array
pub record ReadsAs (contents : Contents) (m : Memory) (array : Array) : Type 0 where
  pub sound : IsSound m
  pub reads : FactsRead contents m.staged (facts m.tables) m.next.object array
