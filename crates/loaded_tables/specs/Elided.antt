-- What elisions elide.
use Rattle.std.specs.Prelude.{◌≡◌, ◌≢◌, ◌⊎◌, ◌↔◌, ℕ, ◌≤◌, IsTrue, List}
use Rattle.pyramid.specs.Prelude.{is_elided, is_within, ElidedRanges, ranges_of}
use Rattle.array_spec.specs.Prelude.{ElisionFact, Table}
use Rattle.pur_base.specs.declared.request.Table.TheVariants as table

-- some ids of a table that has ids
abbrev pub IsRange : ElisionFact → Type 0
IsRange f = (f.first ≤ f.last) × (f.table ≢ table.Elision)

-- the ids that were elided, and those that the facts elide
pub record AddsElided (facts : List ElisionFact) (old new : ElidedRanges) : Type 0 where
  pub ids : (t : Table) (id : ℕ) → IsTrue (is_within (ranges_of new t) id) ↔ (IsTrue (is_within (ranges_of old t) id) ⊎ IsTrue (is_elided facts t id))

-- the ids that the facts elide
pub record AreElidedBy (facts : List ElisionFact) (elided : ElidedRanges) : Type 0 where
  pub ids : (t : Table) (id : ℕ) → is_elided facts t id ≡ is_within (ranges_of elided t) id
