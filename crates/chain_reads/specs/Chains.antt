-- Tables of which each chain of mediums ends.
use Rattle.std.specs.Prelude.{◌≡◌, ℕ, Some}
use Rattle.pyramid.specs.Prelude.{Facts, IsOver, AreElidedRanges, range, AddressFact, MediumFact, ElidedRanges, ranges_of, Layers, facts_in}
use Rattle.pur_base.specs.declared.request.Table.TheVariants as table
use Rattle.fact_codec.specs.Fact.{LeadsDown}

-- the tables of mediums and addresses hold these facts, and the ranges of elided ids are those of their elisions
pub record AreTablesOf (f : Facts) (mediums : Layers MediumFact) (addresses : Layers AddressFact) (elided : ElidedRanges) : Type 0 where
  pub of_mediums : facts_in mediums ≡ f.mediums
  pub of_addresses : facts_in addresses ≡ f.addresses
  pub elided_mediums : AreElidedRanges f.elisions table.Medium (ranges_of elided table.Medium)
  pub elided_addresses : AreElidedRanges f.elisions table.Address (ranges_of elided table.Address)

-- each visible range leads to a smaller medium, within the greatest size, and no two of a medium have one sector
pub record LeadDown (f : Facts) : Type 0 where
  pub down : (medium : ℕ) (r : MediumFact) → range f medium r.start ≡ Some r → LeadsDown r × (r.medium.0 ≡ medium)
  pub disjoint : (medium sector : ℕ) (r s : MediumFact) → IsOver f medium sector r → IsOver f medium sector s → r ≡ s

-- the tables hold these facts, of which each chain of mediums ends
pub record AreChains (f : Facts) (mediums : Layers MediumFact) (addresses : Layers AddressFact) (elided : ElidedRanges) : Type 0 where
  pub tables : AreTablesOf f mediums addresses elided
  pub lead : LeadDown f
