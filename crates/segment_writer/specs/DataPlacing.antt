-- Sectors that are placed, and the new segments that they are placed in.
use Rattle.std.specs.Prelude.{◌≡◌, ℕ, ◌-◌, ◌*◌, ◌<◌, List, [], length, min, All, take, drop, slice_index_or}
use Rattle.std.specs.Int.{div_ceil}
use Rattle.array_spec.specs.Prelude.{SEGMENT_SECTORS, SEGMENT_SHARDS, SegmentFact, Place}
use Rattle.world.specs.Prelude.{Shelved}
use Rattle.segment_io.specs.Prelude.{ArePlaces}
use Rattle.segment_writer.specs.Layout as layout

-- ---- sectors

-- each is the index of a staged sector
abbrev pub AreIndicesOf : List (List ℕ) → List ℕ → Type 0
AreIndicesOf staged order = All (λ i. i < length staged) order

-- the indices of the sectors of a segment: segments are filled one behind another
abbrev pub order_of_segment : List ℕ → ℕ → List ℕ
order_of_segment order number = take SEGMENT_SECTORS (drop (SEGMENT_SECTORS * number) order)

-- ---- segments

-- the segment of that number
abbrev pub segment_in : List SegmentFact → ℕ → SegmentFact
segment_in segments number = slice_index_or segments number (record { segment = record { 0 = 0 }; places = []; placed = 0; seq = record { 0 = 0 } })

-- and its units
abbrev pub places_in : List SegmentFact → ℕ → List Place
places_in segments number = (segment_in segments number).places

-- each lies on units of the shelf
abbrev pub HavePlaces : Shelved → List SegmentFact → Type 0
HavePlaces shelf segments = (number : ℕ) → number < length segments → ArePlaces shelf (places_in segments number)

-- no unit stands in two of the segments
abbrev pub AreApart : List SegmentFact → Type 0
AreApart segments = layout.AreApart (length segments) (places_in segments)

-- each has nine units
abbrev pub HaveNine : List SegmentFact → Type 0
HaveNine segments = (number : ℕ) → number < length segments → length (places_in segments number) ≡ SEGMENT_SHARDS

-- as many as so many sectors take, and full but for the last
pub record AreFilled (segments : List SegmentFact) (sectors : ℕ) : Type 0 where
  pub count : div_ceil sectors SEGMENT_SECTORS ≡ length segments
  pub placed : (number : ℕ) → number < length segments → (segment_in segments number).placed ≡ min (sectors - SEGMENT_SECTORS * number) SEGMENT_SECTORS

-- segments on units of their own, for staged sectors
pub record MayBePlaced (shelf : Shelved) (segments : List SegmentFact) (staged : List (List ℕ)) (order : List ℕ) : Type 0 where
  pub places : HavePlaces shelf segments
  pub apart : AreApart segments
  pub filled : AreFilled segments (length order)
  pub indices : AreIndicesOf staged order
