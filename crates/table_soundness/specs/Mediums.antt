-- What is judged of the ranges of mediums.
use Rattle.std.specs.Prelude.{◌≡◌, ◌≢◌, ℕ, ◌<◌, ◌≤◌, ◌^◌, List, [], ◌∷◌, All, AllPairs, Contains}
use Rattle.std.specs.List.{AllByRecursion}
use Rattle.array_spec.specs.Prelude.{Facts, ObjectFact, MediumFact, ObjectKind, Volume, Snapshot, OBJECT_SECTORS, AreMediumsSound}

-- the mediums of ranges are below the next one, also of facts that aren't visible, and visible ranges are disjoint, end within their object and lead to no volume's medium
pub record AreMediumsRight (next_medium : ℕ) (facts : Facts) : Type 0 where
  pub ids : AllByRecursion (λ f. f.medium.0 < next_medium) facts.mediums
  pub sound : AreMediumsSound facts

-- the start of a range, or of an empty one
abbrev pub IsSmall : MediumFact → Type 0
IsSmall f = f.start < 2 ^ 64

-- a range of some sectors
pub record IsRange (r : MediumFact) : Type 0 where
  pub some : r.start < r.end
  pub end : r.end ≤ OBJECT_SECTORS

-- the second begins behind the first, where both are of one medium
abbrev pub LiesBefore : MediumFact → MediumFact → Type 0
LiesBefore r s = r.medium.0 ≡ s.medium.0 → r.end ≤ s.start

-- the ranges of the object's medium end within its sectors
abbrev pub EndsWithin : List MediumFact → ObjectFact → Type 0
EndsWithin ranges x = All (λ r. r.medium.0 ≡ x.medium.0 → r.end ≤ x.sectors) ranges

-- the range leads to no volume's medium
abbrev pub IsFrozen : List ObjectFact → MediumFact → Type 0
IsFrozen objects r = All (λ x. x.kind ≡ Volume → r.target.0 ≢ x.medium.0) objects

-- the range leads to none of these mediums
pub record LeadsElsewhere (mediums : List ℕ) (r : MediumFact) : Type 0 where
  pub other : Contains mediums r.target.0 → ⊥

-- the object is a volume, or has none of these mediums
pub record Avoids (mediums : List ℕ) (x : ObjectFact) : Type 0 where
  pub other : x.kind ≡ Snapshot → Contains mediums x.medium.0 → ⊥

-- the medium of a volume in front of others
abbrev pub with_medium : ObjectKind → ℕ → List ℕ → List ℕ
with_medium Volume medium rest = medium ∷ rest
with_medium Snapshot medium rest = rest

-- the mediums of the volumes
abbrev pub volume_mediums : List ObjectFact → List ℕ
volume_mediums [] = []
volume_mediums (x ∷ xs) = with_medium x.kind x.medium.0 (volume_mediums xs)

-- the same, as the lists of what is visible say it
pub record AreMediumsListed (next_medium : ℕ) (facts shown : List MediumFact) (objects : List ObjectFact) : Type 0 where
  pub ids : All (λ f. f.medium.0 < next_medium) facts
  pub disjoint : AllPairs LiesBefore shown
  pub within : All (EndsWithin shown) objects
  pub frozen : All (IsFrozen objects) shown
