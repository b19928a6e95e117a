-- The visible data segments beside the facts that they come from.
use Rattle.std.specs.Prelude.{◌≡◌, ℕ, ◌≤◌, Bool, List, Contains}
use Rattle.pyramid.specs.Prelude.{segment_key, never, SegmentFact, Layers, facts_in, IsShown}

-- the facts of all data segments, and the segments that are visible, by ascending id
pub record Segments : Type 0 where
  pub facts : Layers SegmentFact
  pub visible : List SegmentFact
  -- how many more visible segments it takes without memory
  pub visible_room : ℕ

-- the sequence number of a fact
abbrev pub number : SegmentFact → ℕ
number f = f.seq.0

-- the visible segments are what the facts say where those ids are elided
abbrev pub AreVisible : (ℕ → Bool) → Segments → Type 0
AreVisible elided t = IsShown segment_key number never (facts_in t.facts) elided t.visible

-- no other fact has the segment of one of that number or a greater one
abbrev pub AreOwnFrom : ℕ → List SegmentFact → Type 0
AreOwnFrom from facts = (f g : SegmentFact) → Contains facts f → Contains facts g → from ≤ number f → f.segment.0 ≡ g.segment.0 → f ≡ g
