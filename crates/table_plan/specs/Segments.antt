-- New segments for so many sectors.
use Rattle.std.specs.Prelude.{ℕ, ◌+◌, ◌-◌, min, List, [], ◌∷◌}
use Rattle.memory_spec.specs.Prelude.{SEGMENT_SECTORS, Place, SegmentFact}

-- one on each of these places, full until no sector is left, from an id and a number on
abbrev pub segments_from : ℕ → ℕ → ℕ → List (List Place) → List SegmentFact
segments_from first number sectors [] = []
segments_from first number sectors (places ∷ rest) =
    record { segment = record { 0 = first }; places = places; placed = min sectors SEGMENT_SECTORS; seq = record { 0 = number } }
    ∷ segments_from (first + 1) (number + 1) (sectors - min sectors SEGMENT_SECTORS) rest
