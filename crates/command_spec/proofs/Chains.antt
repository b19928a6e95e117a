-- What a chain of mediums reads as once ranges were added on new mediums: an old medium as before, and a new one as what its range leads to.
use Rattle.command_spec.proofs.Prelude.{nat_tests, ◌≡◌, ◌⊎◌, ℕ, ◌+◌, ◌-◌, ◌<◌, ◌≤◌, List, ◌∙◌, arith, inl, inr, None, Contains, range, address, Reads, below, unwritten, IsOver, OBJECT_SECTORS, MediumFact, IsFact, LeadsNowhere, LeadsDown, facts, Memory, Contents, SectorReads, IsSound, of_each, all_mediums, all_addresses, range_is, address_is, none_since, within_size, Derived, IsDerived}
use Rattle.array_spec.specs.Prelude.{here, Target, AddressFact}
use Rattle.pur_base.specs.declared.facts.AnyFact.TheVariants as any

down : (r : MediumFact) → r.start < r.end → LeadsNowhere r ⊎ LeadsDown r → r.target.0 < r.medium.0
down r l (inl h) = absurd (omega (arith, l, h.0))
down r l (inr h) = h.down

module _ (was now : Memory) (d : Derived) (sound : IsSound was) (derived : IsDerived (facts was.tables) (facts now.tables) d)
    (fresh : (r : MediumFact) → Contains d.ranges r → was.next.medium ≤ r.medium.0) where
  -- ---- old mediums

  range_same : (m start : ℕ) → m < was.next.medium → start < OBJECT_SECTORS → range (facts now.tables) m start ≡ range (facts was.tables) m start
  range_same m start old small = derived.range_kept m start small (λ r c e. let new = fresh r c in omega (arith, old, new, e))

  over_since : (m x : ℕ) (r : MediumFact) → m < was.next.medium → x < OBJECT_SECTORS → IsOver (facts was.tables) m x r → IsOver (facts now.tables) m x r
  over_since m x r old small o = grind (arith, nat_tests, range_same)

  over_before : (m x : ℕ) (r : MediumFact) → m < was.next.medium → x < OBJECT_SECTORS → IsOver (facts now.tables) m x r → IsOver (facts was.tables) m x r
  over_before m x r old small o = grind (arith, nat_tests, range_same)

  leads_down : (m x : ℕ) (r : MediumFact) → IsOver (facts was.tables) m x r → r.target.0 < m
  leads_down m x r o =
      let is = range_is (facts was.tables) m r.start r o.there in
      let fits : IsFact (any.Medium r) = sound.fit (any.Medium r) (all_mediums (facts was.tables) r is.0) in
      let less = down r (omega (arith, o.from_start, o.below_end)) fits.lawful.statement in
      omega (arith, is.1, less)

  pub old_reads_stay : (m x : ℕ) (t : Target) → m < was.next.medium → x < OBJECT_SECTORS → Reads (facts was.tables) m x t → Reads (facts now.tables) m x t
  old_reads_stay m x t old small (here a) = here (derived.addresses m x ∙ a)
  old_reads_stay m x t old small (below r a o inner) =
      let less = leads_down m x r o in
      let most = (within_size was sound).ranges m r.start r o.there in
      below r (derived.addresses m x ∙ a) (over_since m x r old small o)
      (old_reads_stay r.target.0 (r.target_start + (x - r.start)) t (omega (arith, old, less)) (omega (arith, most, o.from_start, o.below_end)) inner)
  old_reads_stay m x t old small (unwritten a none) = unwritten (derived.addresses m x ∙ a) (λ r o. none r (over_before m x r old small o))

  -- ---- new mediums

  no_address : (m x : ℕ) → was.next.medium ≤ m → address (facts was.tables) m x ≡ None
  no_address m x new = none_since (address (facts was.tables) m x) (λ t e.
      let g = address_is (facts was.tables) m x t e in
      let low : g.0.medium.0 < was.next.medium = of_each (λ (f : AddressFact). f.medium.0 < was.next.medium) (facts was.tables).addresses g.0 sound.ids.addresses g.1 in
      let small : g.0.sector < OBJECT_SECTORS = (sound.fit (any.Address g.0) (all_addresses (facts was.tables) g.0 g.1)).2 in
      omega (arith, g.2, low, small, new))

  pub reads_through : (r : MediumFact) (x : ℕ) (t : Target) → Contains d.ranges r → r.start ≤ x → x < r.end → r.target.0 < was.next.medium → r.target_start + (x - r.start) < OBJECT_SECTORS
      → Reads (facts was.tables) r.target.0 (r.target_start + (x - r.start)) t → Reads (facts now.tables) r.medium.0 x t
  reads_through r x t c low high old small reads =
      below r (derived.addresses r.medium.0 x ∙ no_address r.medium.0 x (fresh r c)) (record { there = derived.range_given r c; from_start = low; below_end = high })
      (old_reads_stay r.target.0 (r.target_start + (x - r.start)) t old small reads)

  -- ---- the sectors

  pub sector_stays : (contents : Contents) (m place : ℕ) (sector : List ℕ) → m < was.next.medium → place < OBJECT_SECTORS
      → SectorReads contents was.staged (facts was.tables) m place sector → SectorReads contents was.staged (facts now.tables) m place sector
  sector_stays contents m place sector old small s = (s.0, old_reads_stay m place s.0 old small s.1, s.2)

  pub sector_through : (contents : Contents) (r : MediumFact) (place : ℕ) (sector : List ℕ) → Contains d.ranges r → r.start ≤ place → place < r.end → r.target.0 < was.next.medium
      → r.target_start + (place - r.start) < OBJECT_SECTORS
      → SectorReads contents was.staged (facts was.tables) r.target.0 (r.target_start + (place - r.start)) sector → SectorReads contents was.staged (facts now.tables) r.medium.0 place sector
  sector_through contents r place sector c low high old small s = grind (arith, nat_tests, reads_through)
