-- The sectors of targets.
use Rattle.std.specs.Prelude.{◌≡◌, ℕ, ◌+◌, ◌*◌, ◌<◌, ◌≤◌, List, Some, slice_index_or}
use Rattle.memory_spec.specs.Prelude.{SECTOR_BYTES, bytes_at, segment, Location, Target, Stored, Zero, SegmentFact, Refusal, facts, Memory, Contents, TargetReads}
use Rattle.target_io.specs.declared.fault.ReadFault.{ReadFault}
use Rattle.target_io.specs.declared.fault.ReadFault.TheVariants.{Refused, Lost}

-- the target of the sector so many places behind that location
abbrev pub target_behind : Location → ℕ → Target
target_behind at j = Stored (record at { index = at.index + j })

-- so many sectors from the location on were placed in a visible segment
pub record IsRun (m : Memory) (at : Location) (count : ℕ) : Type 0 where
  pub given : 1 ≤ at.segment.0
  pub which : SegmentFact
  pub there : segment (facts m.tables) at.segment.0 ≡ Some which
  pub placed : at.index + count ≤ which.placed

-- the first sectors of the bytes are those that the targets stand for
abbrev pub AreSectorsOf : Contents → List (List ℕ) → List Target → ℕ → List ℕ → Type 0
AreSectorsOf contents staged targets count bytes = (j : ℕ) → j < count → TargetReads contents staged (slice_index_or targets j Zero) (bytes_at (SECTOR_BYTES * j) SECTOR_BYTES bytes)

-- it holds of the refusal, where the fault is one
abbrev pub IfRefused : ReadFault → (Refusal → Type 0) → Type 0
IfRefused (Refused why) P = P why
IfRefused Lost P = Unit {0}

-- it holds, where the fault is that drives are lost
abbrev pub IfLost : ReadFault → Type 0 → Type 0
IfLost (Refused why) P = Unit {0}
IfLost Lost P = P
