-- What facts of mediums say of their ranges.
use Rattle.std.specs.Prelude.{◌≡◌, ℕ, ◌+◌, ◌-◌, ◌<◌, ◌≤◌, ◌==◌, ◌&&◌, nat_lt, Bool, List, [], ◌∷◌, Option, Some, None, if◌then◌else◌}
use Rattle.pyramid.specs.Prelude.{MediumFact, is_empty_range, medium_key, key_of, says}

-- the sequence number
abbrev pub number : MediumFact → ℕ
number f = f.seq.0

-- what facts of mediums say at a key, where those mediums are elided
abbrev pub said : List MediumFact → (ℕ → Bool) → ℕ → Option MediumFact
said facts elided k = says medium_key number is_empty_range facts elided k

-- the visible range of a medium from a start on
abbrev pub range_from : List MediumFact → (ℕ → Bool) → ℕ → ℕ → Option MediumFact
range_from facts elided medium start = said facts elided (key_of medium start)

-- a visible range of the medium has the sector
pub record IsRangeOver (facts : List MediumFact) (elided : ℕ → Bool) (medium sector : ℕ) (r : MediumFact) : Type 0 where
  pub there : range_from facts elided medium r.start ≡ Some r
  pub from_start : r.start ≤ sector
  pub below_end : sector < r.end

-- each visible range of the medium ends behind its start, and no two have one sector
pub record AreDisjoint (facts : List MediumFact) (elided : ℕ → Bool) (medium : ℕ) : Type 0 where
  pub whole : (r : MediumFact) → range_from facts elided medium r.start ≡ Some r → r.start < r.end
  pub apart : (sector : ℕ) (r s : MediumFact) → IsRangeOver facts elided medium sector r → IsRangeOver facts elided medium sector s → r ≡ s

-- the visible range of the medium in front of which none begins
pub record IsLowest (facts : List MediumFact) (elided : ℕ → Bool) (medium : ℕ) (r : MediumFact) : Type 0 where
  pub there : range_from facts elided medium r.start ≡ Some r
  pub first : (start : ℕ) → start < r.start → range_from facts elided medium start ≡ None

-- the visible range of the medium that begins first from a sector on
pub record IsNext (facts : List MediumFact) (elided : ℕ → Bool) (medium sector : ℕ) (r : MediumFact) : Type 0 where
  pub there : range_from facts elided medium r.start ≡ Some r
  pub behind : sector ≤ r.start
  pub first : (start : ℕ) → sector ≤ start → start < r.start → range_from facts elided medium start ≡ None

-- the lowest range may lose its front up to there
pub record IsCut (facts : List MediumFact) (elided : ℕ → Bool) (medium to : ℕ) (r : MediumFact) : Type 0 where
  pub lowest : IsLowest facts elided medium r
  pub behind_start : r.start < to
  pub within_end : to ≤ r.end

-- nothing begins where the range began
abbrev pub emptied : MediumFact → ℕ → MediumFact
emptied r seq = record { medium = r.medium; start = r.start; end = r.start; target = record { 0 = 0 }; target_start = 0; seq = record { 0 = seq } }

-- what is left of a range from there on
abbrev pub rest_of : MediumFact → ℕ → ℕ → MediumFact
rest_of r to seq = record { medium = r.medium; start = to; end = r.end; target = r.target; target_start = r.target_start + (to - r.start); seq = record { 0 = seq } }

-- the facts that take a range's front away
abbrev pub cut_facts : MediumFact → ℕ → ℕ → List MediumFact
cut_facts r to seq = if nat_lt to r.end then emptied r seq ∷ rest_of r to (seq + 1) ∷ [] else emptied r seq ∷ []

-- what is said once a range has lost its front: it begins there, or is gone where it ends there
abbrev pub after_cut : MediumFact → ℕ → ℕ → (ℕ → Option MediumFact) → ℕ → Option MediumFact
after_cut r to seq before k =
    if k == medium_key r then None else
    if (k == key_of r.medium.0 to) && nat_lt to r.end then Some (rest_of r to (seq + 1)) else before k
