-- Sets of ids as ranges.
use Rattle.std.specs.Prelude.{ℕ, ◌+◌, ◌<◌, ◌≤◌, List, [], ◌∷◌, min, max, nat_lt, if◌then◌else◌, All, AllPairs}
use Rattle.pur_base.specs.declared.request.Table.{Table}
use Rattle.pur_base.specs.declared.request.Table.TheVariants as table

-- in order, none of them empty, and no two of them overlap or touch
pub record AreApart (ranges : List (ℕ × ℕ)) : Type 0 where
  pub whole : All (λ r. r.0 ≤ r.1) ranges
  pub apart : AllPairs (λ r s. r.1 + 1 < s.0) ranges

-- the ranges with one more, which takes in those that it overlaps or touches
abbrev pub with_range : ℕ → ℕ → List (ℕ × ℕ) → List (ℕ × ℕ)
with_range first last [] = (first, last) ∷ []
with_range first last (r ∷ rs) =
    if nat_lt (r.1 + 1) first then r ∷ with_range first last rs else
    if nat_lt (last + 1) r.0 then (first, last) ∷ r ∷ rs else with_range (min first r.0) (max last r.1) rs

-- a set of ids as ranges, and how many more of them it takes without memory
pub record IdSet : Type 0 where
  pub ranges : List (ℕ × ℕ)
  pub room : ℕ

-- the ranges of each table's elided ids
pub record ElidedRanges : Type 0 where
  pub objects : List (ℕ × ℕ)
  pub mediums : List (ℕ × ℕ)
  pub addresses : List (ℕ × ℕ)
  pub segments : List (ℕ × ℕ)
  -- how many more ids of objects it takes without memory
  pub object_room : ℕ

-- those of one table; elisions themselves are never elided
abbrev pub ranges_of : ElidedRanges → Table → List (ℕ × ℕ)
ranges_of e table.Object = e.objects
ranges_of e table.Medium = e.mediums
ranges_of e table.Address = e.addresses
ranges_of e table.Segment = e.segments
ranges_of e table.Elision = []
