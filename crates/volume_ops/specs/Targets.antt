-- Where the sectors of targets stand.
use Rattle.std.specs.Prelude.{◌≡◌, ◌⊎◌, ◌<◌, ◌≤◌, length, Some}
use Rattle.memory_spec.specs.Prelude.{segment, Location, Target, Stored, Zero, SegmentFact, facts, Memory, Contents, TargetReads}

-- the location is of a sector that was placed in a visible segment
pub record IsInSegment (m : Memory) (at : Location) : Type 0 where
  pub given : 1 ≤ at.segment.0
  pub which : SegmentFact
  pub there : segment (facts m.tables) at.segment.0 ≡ Some which
  pub placed : at.index < which.placed

-- the target is of zeros, of a staged sector, or of one in a segment
abbrev pub Stands : Memory → Target → Type 0
Stands m (Stored at) = ((at.segment.0 ≡ 0) × (at.index < length m.staged)) ⊎ IsInSegment m at
Stands m Zero = Unit {0}

-- the target's sector is the one of a segment at that location
pub record IsPlaced (m : Memory) (target : Target) (at : Location) : Type 0 where
  pub named : target ≡ Stored at
  pub segment : IsInSegment m at
  pub reads : (contents : Contents) → TargetReads contents m.staged target (contents at.segment.0 at.index)
