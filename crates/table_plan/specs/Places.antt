-- Where staged sectors are placed: in order of staging, in new segments one after another.
use Rattle.std.specs.Prelude.{◌≡◌, ℕ, ◌+◌, ◌/◌, ◌%◌, Bool, false, ◌&&◌, ◌==◌, if◌then◌else◌, List, [], ◌∷◌, Option, Some, None, IsSome, slice_index_or}
use Rattle.std.specs.List.{list_any}
use Rattle.memory_spec.specs.Prelude.{SEGMENT_SECTORS, Location, Target, Stored, Zero, AddressFact}

-- whether the target is the staged sector of that index
abbrev pub is_staged_at : ℕ → Target → Bool
is_staged_at index (Stored at) = (at.segment.0 == 0) && (at.index == index)
is_staged_at index Zero = false

-- whether one of the facts names it
abbrev pub is_named : List AddressFact → ℕ → Bool
is_named facts index = list_any (λ f. is_staged_at index f.target) facts

-- the flagged indices, ascending
abbrev pub flagged_from : ℕ → List Bool → List ℕ
flagged_from i [] = []
flagged_from i (flag ∷ flags) = if flag then i ∷ flagged_from (i + 1) flags else flagged_from (i + 1) flags

-- the place of the n-th sector that is placed, in segments from an id on
abbrev pub place_of : ℕ → ℕ → Location
place_of first n = record { segment = record { 0 = first + n / SEGMENT_SECTORS }; index = n % SEGMENT_SECTORS }

-- the place of each sector that is flagged, where so many were placed before
abbrev pub places_from : ℕ → ℕ → List Bool → List (Option Location)
places_from first n [] = []
places_from first n (flag ∷ flags) = if flag then Some (place_of first n) ∷ places_from first (n + 1) flags else None ∷ places_from first n flags

-- a place, or any where there is none
abbrev pub place_or_any : Option Location → Location
place_or_any (Some at) = at
place_or_any None = record { segment = record { 0 = 0 }; index = 0 }

-- the place of an index
abbrev pub place_in : List (Option Location) → ℕ → Location
place_in places index = place_or_any (slice_index_or places index None)

-- there is a place for the staged sector of a target
abbrev pub has_place : List (Option Location) → Target → Type 0
has_place places (Stored at) = at.segment.0 ≡ 0 → IsSome (slice_index_or places at.index None)
has_place places Zero = Unit {0}

-- and of a fact
abbrev pub has_places : List (Option Location) → AddressFact → Type 0
has_places places f = has_place places f.target
