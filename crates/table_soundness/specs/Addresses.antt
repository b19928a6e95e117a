-- What is judged of addresses.
use Rattle.std.specs.Prelude.{◌≡◌, ℕ, ◌<◌, List, All, Contains, ⊤}
use Rattle.std.specs.List.{AllByRecursion}
use Rattle.array_spec.specs.Prelude.{Facts, ObjectFact, AddressFact, SegmentFact, Target, Stored, Zero, OBJECT_SECTORS, AreAddressesSound}

-- the mediums of addresses are below the next one, also of facts that aren't visible, and each sector is one of its object's and was placed
pub record AreAddressesRight (next_medium : ℕ) (facts : Facts) : Type 0 where
  pub ids : AllByRecursion (λ f. f.medium.0 < next_medium) facts.addresses
  pub sound : AreAddressesSound facts

-- a sector that an object may have
abbrev pub IsSmall : AddressFact → Type 0
IsSmall f = f.sector < OBJECT_SECTORS

-- a stored sector was placed in one of these segments
abbrev pub IsThere : List SegmentFact → Target → Type 0
IsThere segments (Stored at) = (d : SegmentFact) × Contains segments d × (d.segment.0 ≡ at.segment.0) × (at.index < d.placed)
IsThere segments Zero = ⊤

-- the addresses of the object's medium are of its sectors
abbrev pub EndsWithin : List AddressFact → ObjectFact → Type 0
EndsWithin addresses x = All (λ f. f.medium.0 ≡ x.medium.0 → f.sector < x.sectors) addresses

-- the same, as the lists of what is visible say it
pub record AreAddressesListed (next_medium : ℕ) (facts shown : List AddressFact) (objects : List ObjectFact) (segments : List SegmentFact) : Type 0 where
  pub ids : All (λ f. f.medium.0 < next_medium) facts
  pub there : All (λ f. IsThere segments f.target) shown
  pub within : All (EndsWithin shown) objects
