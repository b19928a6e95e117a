-- A chain of mediums, each of which leads to the one below it.
use Rattle.std.specs.Prelude.{◌≡◌, ℕ, ◌<◌, ◌^◌, [], All}
use Rattle.pyramid.specs.Prelude.{MediumFact, Layers, ranges_of, facts_in}
use Rattle.pur_base.specs.declared.request.Table.TheVariants as table
use Rattle.storage_bench.specs.declared.chains.Chain.{Chain}
use Rattle.storage_bench.specs.declared.chains.TheConstants.{LINKS}

-- its first 64 sectors read as those of a smaller medium
pub record IsLink (r : MediumFact) : Type 0 where
  pub start : r.start ≡ 0
  pub end : r.end ≡ 64
  pub medium : r.medium.0 < 2 ^ 64
  pub down : r.target.0 < r.medium.0
  pub target : r.target_start ≡ 0

-- links with numbers below this one
abbrev pub AreLinks : ℕ → Layers MediumFact → Type 0
AreLinks number mediums = All (λ r. IsLink r × (r.seq.0 < number)) (facts_in mediums)

-- its mediums lead down by links, and nothing is elided
pub record IsChain (c : Chain) : Type 0 where
  pub links : AreLinks LINKS c.mediums.facts
  pub mediums : ranges_of c.elided table.Medium ≡ []
  pub addresses : ranges_of c.elided table.Address ≡ []
