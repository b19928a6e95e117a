-- Marks of mediums at their first ranges.
use Rattle.std.specs.Prelude.{◌≡◌, ◌↔◌, ℕ, ◌<◌, Bool, true, false, List, length, slice_index_or, Contains}
use Rattle.pyramid.specs.Prelude.{MediumId, MediumFact}

-- the range's medium as a number
abbrev pub medium_of : MediumFact → ℕ
medium_of r = r.medium.0

-- the first range of a medium stands there
pub record IsFirst (ranges : List MediumFact) (medium place : ℕ) : Type 0 where
  pub within : place < length ranges
  pub there : (d : MediumFact) → (slice_index_or ranges place d).medium.0 ≡ medium
  pub first : (i : ℕ) (d : MediumFact) → i < place → (slice_index_or ranges i d).medium.0 < medium

-- of each medium that has ranges, the first is marked if the medium is one of these
abbrev pub AreMarks : List MediumFact → List Bool → List MediumId → Type 0
AreMarks ranges marks found = (medium : MediumId) (place : ℕ) → IsFirst ranges medium.0 place → (slice_index_or marks place false ≡ true) ↔ Contains found medium
