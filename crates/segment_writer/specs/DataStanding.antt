-- Sectors that stand on the drives of segments.
use Rattle.std.specs.Prelude.{◌≡◌, ℕ, ◌+◌, ◌*◌, ◌<◌, List, [], Some, length, slice_get, slice_index_or}
use Rattle.array_spec.specs.Prelude.{View, SEGMENT_SECTORS, Place, SegmentFact, SectorStands, StripesStand}

-- the sectors of these indices stand in the segment, one behind another
abbrev pub StandIn : View → List Place → List (List ℕ) → List ℕ → Type 0
StandIn view places staged order = (index : ℕ) → index < length order → SectorStands view places index (slice_index_or staged (slice_index_or order index 0) [])

-- the sectors of these indices stand in the segments, 840 in each of them but the last, and so do the stripes that hold them
pub record DataStands (view : View) (segments : List SegmentFact) (staged : List (List ℕ)) (order : List ℕ) : Type 0 where
  pub stripes : (number : ℕ) (d : SegmentFact) → slice_get segments number ≡ Some d → StripesStand view d.places d.placed
  pub sectors : (number index : ℕ) (d : SegmentFact) → slice_get segments number ≡ Some d → index < d.placed
      → SectorStands view d.places index (slice_index_or staged (slice_index_or order (SEGMENT_SECTORS * number + index) 0) [])
