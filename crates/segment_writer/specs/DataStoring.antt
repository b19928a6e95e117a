-- Data segments that are written.
use Rattle.std.specs.Prelude.{ℕ, Bool, List, length}
use Rattle.std.specs.Int.{div_ceil}
use Rattle.array_spec.specs.Prelude.{Image, View, Device, SegmentFact, Header, STRIPE_SECTORS}
use Rattle.segment_codec.specs.declared.kind.SegmentKind.TheVariants as kinds
use Rattle.world.specs.Prelude.{Shelved, Stop}
use Rattle.segment_writer.specs.Layout as layout
use Rattle.segment_writer.specs.DataPlacing.{order_of_segment, segment_in, places_in}
use Rattle.segment_writer.specs.DataFilling.{HoldsSectors}

-- the header of a data segment, with the shard 0
abbrev pub header_of_segment : SegmentFact → ℕ → Header
header_of_segment segment generation = record {
  segment = segment.segment;
  generation = generation;
  kind = kinds.Data;
  shard = 0;
  placed = segment.placed;
  tag = 0;
  part = 0;
  parts = 0;
  facts = 0;
  places = segment.places;
}

-- the segments under their headers
abbrev pub layout_of_data : List SegmentFact → ℕ → layout.Layout
layout_of_data segments generation = record { count = length segments; header = λ number. header_of_segment (segment_in segments number) generation }

-- how many stripes a segment has
abbrev pub stripes_of_order : List ℕ → ℕ → ℕ
stripes_of_order order number = div_ceil (length (order_of_segment order number)) STRIPE_SECTORS

-- the stripe of the segment holds its sectors
abbrev pub SectorsOf : List (List ℕ) → List ℕ → ℕ → ℕ → List (List ℕ) → Type 0
SectorsOf staged order number stripe shards = HoldsSectors staged (order_of_segment order number) stripe shards

-- the sectors of each segment stand in it, but for its lost drives
abbrev pub HoldsData : Image → List SegmentFact → List Bool → List (List ℕ) → List ℕ → Type 0
HoldsData image segments lost staged order = layout.HoldAll image (layout_of_data segments 0) lost (stripes_of_order order) (SectorsOf staged order)

-- it is the drive of one of their units
abbrev pub IsOnData : List SegmentFact → Device → Type 0
IsOnData segments device = layout.IsOnSome (length segments) (places_in segments) device

-- so many write units from the n-th on, in each unit of the segments
abbrev pub OnData : List SegmentFact → ℕ → ℕ → Device → ℕ → Type 0
OnData segments n count device i = layout.OnSome (length segments) (places_in segments) n count device i

-- of the nine drives of each segment the view shows none that is lost, the others as they stand, and at most two are missing in it
abbrev pub ShowsMostOf : Image → List SegmentFact → List Bool → View → Type 0
ShowsMostOf image segments lost view = layout.ShowsMostOfAll image (length segments) (places_in segments) lost view

-- the sectors stand, so do the headers, and nothing is dirty on the drives of the segments, but for lost ones
abbrev pub HasWrittenData : Shelved → List SegmentFact → ℕ → List Bool → List (List ℕ) → List ℕ → Type 0
HasWrittenData shelf segments generation lost staged order = layout.HasWritten shelf (layout_of_data segments generation) lost (stripes_of_order order) (SectorsOf staged order)

-- at a stop no header of the segments is there yet, or their sectors stand, but for those on lost drives
abbrev pub DataComesInTurn : Shelved → List SegmentFact → List Bool → List (List ℕ) → List ℕ → Stop → Type 0
DataComesInTurn shelf segments lost staged order stop = layout.ComesInTurn shelf (layout_of_data segments 0) lost (stripes_of_order order) (SectorsOf staged order) stop
