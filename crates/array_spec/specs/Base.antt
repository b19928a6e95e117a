-- The array that the stored tables hold.
use Rattle.std.specs.Prelude.{◌≡◌, ℕ, ◌<◌, Bool, true, false, List, [], length, Some, slice_index_or}
use Rattle.std.specs.List.{AllZip}
use Rattle.boot_codec.specs.Prelude.{View, Entry, Array, filled, Facts, segment, objects, Reads, ObjectKind, Volume, Snapshot, Target, Stored, Zero, ObjectFact, SegmentFact}
use Rattle.segment_codec.specs.Prelude.{SectorStands}

-- the sector that a target stands for
abbrev pub TargetStands : View → Facts → Target → List ℕ → Type 0
TargetStands view facts (Stored at) sector = (d : SegmentFact) × (segment facts at.segment.0 ≡ Some d) × SectorStands view d.places at.index sector
TargetStands view facts Zero sector = sector ≡ filled 0

-- the sector that a medium reads as at a place
abbrev pub MediumReads : View → Facts → ℕ → ℕ → List ℕ → Type 0
MediumReads view facts medium place sector = (target : Target) × Reads facts medium place target × TargetStands view facts target sector

-- whether an object of that kind is a snapshot
abbrev pub is_snapshot : ObjectKind → Bool
is_snapshot Volume = false
is_snapshot Snapshot = true

-- the object as an entry of the plain array
pub record EntryStands (view : View) (facts : Facts) (x : ObjectFact) (e : Entry) : Type 0 where
  pub name : e.name ≡ x.name
  pub snapshot : e.snapshot ≡ is_snapshot x.kind
  pub size : length e.sectors ≡ x.sectors
  pub sectors : (place : ℕ) → place < x.sectors → MediumReads view facts x.medium.0 place (slice_index_or e.sectors place [])

-- the visible objects by ascending id, each with its sectors
abbrev pub BaseStands : View → Facts → ℕ → Array → Type 0
BaseStands view facts next array = AllZip (EntryStands view facts) (objects facts next) array
