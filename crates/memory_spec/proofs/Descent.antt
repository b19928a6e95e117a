-- Each sector of each medium reads as some target: what isn't said of a medium is read below it, and each range leads to a smaller one.
use Rattle.memory_spec.proofs.Prelude.{nat_tests, ◌≡◌, ◌⊎◌, ℕ, zero, suc, ◌+◌, ◌-◌, ◌^◌, ◌<◌, ◌≤◌, List, [], ◌∷◌, refl, sym, arith, inl, inr, subst, Option, Some, None, Contains, cases_lt, Facts, medium_key, is_empty_range, key_of, IsOver, Reads, below, unwritten, address, range, is_elided, Target, Zero, MediumFact, says_is, IsFact, not_both, same_some, here as first_of, there, either, nowhere, each_by_recursion}
use Rattle.array_spec.specs.Prelude.{here}
use Rattle.pur_base.specs.declared.request.Table.TheVariants as table
use Rattle.pur_base.specs.declared.facts.AnyFact.TheVariants as any

-- two numbers below 2^64 in one key
same_parts : (a b c d : ℕ) → b < 2 ^ 64 → d < 2 ^ 64 → key_of a b ≡ key_of c d → (a ≡ c) × (b ≡ d)
same_parts a b c d l m e = (omega (arith, e, l, m), omega (arith, e, l, m))

module _ (facts : Facts) (lawful : (f : MediumFact) → Contains facts.mediums f → IsFact (any.Medium f)) where
  -- a visible range is one of the facts, and of that medium and start
  record IsSeen (medium start : ℕ) (r : MediumFact) : Type 0 where
    there : Contains facts.mediums r
    fact : IsFact (any.Medium r)
    its_medium : r.medium.0 ≡ medium
    its_start : r.start ≡ start

  seen : (medium start : ℕ) (r : MediumFact) → start < 2 ^ 64 → range facts medium start ≡ Some r → IsSeen medium start r
  seen medium start r small e =
      let w = says_is medium_key (λ f. f.seq.0) is_empty_range (λ f. Contains facts.mediums f × IsFact (any.Medium f)) facts.mediums (is_elided facts.elisions table.Medium) (key_of medium start) r
      (each_by_recursion (λ f. Contains facts.mediums f × IsFact (any.Medium f)) facts.mediums (λ f c. (c, lawful f c))) e in
      let parts = same_parts r.medium.0 r.start medium start w.0.1.fits small w.1 in
      record { there = w.0.0; fact = w.0.1; its_medium = parts.0; its_start = parts.1 }

  -- a range that is visible at its own start
  seen_there : (medium : ℕ) (r : MediumFact) → range facts medium r.start ≡ Some r → IsSeen medium r.start r
  seen_there medium r e =
      let w = says_is medium_key (λ f. f.seq.0) is_empty_range (λ f. Contains facts.mediums f × IsFact (any.Medium f)) facts.mediums (is_elided facts.elisions table.Medium) (key_of medium r.start) r
      (each_by_recursion (λ f. Contains facts.mediums f × IsFact (any.Medium f)) facts.mediums (λ f c. (c, lawful f c))) e in
      seen medium r.start r w.0.1.fits e

  -- it leads to a smaller medium
  leads_down : (medium sector : ℕ) (r : MediumFact) → IsOver facts medium sector r → r.target.0 < medium
  leads_down medium sector r over = grind (arith, nat_tests, seen_there, there, nowhere)

  -- ---- a range over a sector is found among the facts

  abbrev Found : ℕ → ℕ → Type 0
  Found medium sector = (r : MediumFact) × IsOver facts medium sector r

  not_over : (medium sector : ℕ) (f r : MediumFact) → range facts medium f.start ≡ Some r → (sector < r.start) ⊎ (r.end ≤ sector) → IsOver facts medium sector f → ⊥
  not_over medium sector f r e past over = grind (arith, nat_tests, same_some, range, there)

  over_or_not : (medium sector : ℕ) (f : MediumFact) → Contains facts.mediums f → Found medium sector ⊎ (IsOver facts medium sector f → ⊥)
  over_or_not medium sector f c = one (range facts medium f.start) refl
    where
      one : (o : Option MediumFact) → range facts medium f.start ≡ o → Found medium sector ⊎ (IsOver facts medium sector f → ⊥)
      one None e = inr (λ over. not_both (range facts medium f.start) over.there e)
      one (Some r) e = elim (cases_lt sector r.start) [
        | inl before ↦ inr (not_over medium sector f r e (inl before))
        | inr low ↦ elim (cases_lt sector r.end) [
          | inl high ↦ grind (arith, nat_tests)
          | inr behind ↦ inr (not_over medium sector f r e (inr behind))
        ]
      ]

  found_or_none : (medium sector : ℕ) (fs : List MediumFact) → ((f : MediumFact) → Contains fs f → Contains facts.mediums f)
      → Found medium sector ⊎ ((f : MediumFact) → Contains fs f → IsOver facts medium sector f → ⊥)
  found_or_none medium sector [] within = inr (λ f c over. nowhere f c)
  found_or_none medium sector (f ∷ fs) within = elim (over_or_not medium sector f (within f (first_of f fs))) [
    | inl found ↦ inl found
    | inr first ↦ elim (found_or_none medium sector fs (λ g c. within g (there f g fs c))) [
      | inl found ↦ inl found
      | inr none ↦ inr (λ g c over. elim (either f g fs c) [ inl same ↦ first (subst (λ z. IsOver facts medium sector z) same over) | inr rest ↦ none g rest over ])
    ]
  ]

  -- ---- what a sector reads as

  reads_from : (medium sector : ℕ) → ((m x : ℕ) → m < medium → (target : Target) × Reads facts m x target) → (target : Target) × Reads facts medium sector target
  reads_from medium sector smaller = one (address facts medium sector) refl
    where
      one : (o : Option Target) → address facts medium sector ≡ o → (target : Target) × Reads facts medium sector target
      one (Some target) e = (target, here e)
      one None e = elim (found_or_none medium sector facts.mediums (λ f c. c)) [
        | inl found ↦
            let inner = smaller found.0.target.0 (found.0.target_start + (sector - found.0.start)) (leads_down medium sector found.0 found.1) in
            (inner.0, below found.0 e found.1 inner.1)
        | inr none ↦ (Zero, unwritten e (λ r over. none r (seen_there medium r over.there).there over))
      ]

  reads_below : (bound medium sector : ℕ) → medium < bound → (target : Target) × Reads facts medium sector target
  reads_below zero medium sector l = absurd (omega (arith, l))
  reads_below (suc n) medium sector l = reads_from medium sector (λ m x less. reads_below n m x (omega (arith, l, less)))

  pub reads_some : (medium sector : ℕ) → (target : Target) × Reads facts medium sector target
  reads_some medium sector = reads_below (suc medium) medium sector (omega arith)
