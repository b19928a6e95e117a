-- Tables of the ranges and addresses that the tests of chains put.
use Rattle.lower_tests.proofs.Prelude.{◌≡◌, ◌⊎◌, ◌↔◌, ℕ, ◌<◌, ◌≤◌, List, [], ◌∷◌, ◌++◌, refl, sym, ap, ◌∙◌, subst, arith, inl, inr, Some, Contains, Facts, IsOver, is_empty_range, medium_key, is_elided, range, AreElidedRanges, MediumFact, AddressFact, ElidedRanges, ranges_of, Layers, facts_in, facts_of, AreBelow, said_found, all_below, either, nowhere, Table, LeadsDown, IsOnGrid, AreOnGrid}
use Rattle.pyramid.specs.Prelude.{key_of}
use Rattle.pur_base.specs.declared.request.Table.TheVariants as table
use Rattle.chain_reads.specs.Chains.{AreChains}

-- a fact that is put behind others has a number above theirs
pub newest_alone : {F : Type 0} (key number : F → ℕ) (ps : List (List F)) (us : List F) (f : F) → ps ≡ [] → ((x : F) → Contains us x → number x < number f) → AreBelow number (facts_of ps ++ us) (f ∷ [])
newest_alone key number ps us f none less = rw none (all_below number us (f ∷ []) (λ x y c d.
    elim (either f y [] d) [ inl same ↦ rw same (less x c) | inr more ↦ absurd (nowhere y more) ]))

-- what holds of the facts of a table holds with one more
pub each_with : {F : Type 0} (P Q : F → Type 0) (now was : List F) (f : F) → ((x : F) → P x → Q x) → ((x : F) → Contains was x → P x) → Q f
    → ((x : F) → Contains now x ↔ (Contains was x ⊎ Contains (f ∷ []) x)) → (x : F) → Contains now x → Q x
each_with P Q now was f weaker each new taken x c = elim ((taken x).0 c) [
  | inl old ↦ weaker x (each x old)
  | inr more ↦ elim (either f x [] more) [ inl same ↦ subst Q (sym same) new | inr none ↦ absurd (nowhere x none) ]
]

-- no id is elided
none_elided : (t : Table) (ranges : List (ℕ × ℕ)) → ranges ≡ [] → AreElidedRanges [] t ranges
none_elided t ranges none = rw none (record { same = λ id. (λ h. h, λ h. h); whole = tt; apart = λ i j d l m. absurd (omega (arith, m)) })

-- no two ranges on the grid overlap
one_start : (r s : MediumFact) (x : ℕ) → IsOnGrid r → IsOnGrid s → r.start ≤ x → x < r.end → s.start ≤ x → x < s.end → r.start ≡ s.start
one_start r s x a b c d e g = omega (arith, a.begins, b.begins, a.few, b.few, c, d, e, g)

module _ (number : ℕ) (m : Layers MediumFact) (a : Layers AddressFact) (e : ElidedRanges) (grid : AreOnGrid number m) (mediums : ranges_of e table.Medium ≡ []) (addresses : ranges_of e table.Address ≡ []) where
  facts : Facts
  facts = record { objects = []; mediums = facts_in m; addresses = facts_in a; segments = []; elisions = [] }

  found : (medium start : ℕ) (r : MediumFact) → range facts medium start ≡ Some r → IsOnGrid r × (medium_key r ≡ key_of medium start)
  unfolding facts
  found medium start r said =
      let w = said_found medium_key (λ g. g.seq.0) is_empty_range (facts_in m) (is_elided [] table.Medium) (key_of medium start) r said in
      let c : Contains m.unflushed r = subst (λ (ps : List (List MediumFact)). Contains (facts_of ps ++ m.unflushed) r) grid.none w.0 in
      ((grid.each r c).0, w.1)

  leads : (medium : ℕ) (r : MediumFact) → range facts medium r.start ≡ Some r → LeadsDown r × (r.medium.0 ≡ medium)
  leads medium r said =
      let w = found medium r.start r said in
      let g = w.0 in
      (record { some = g.some; end = omega (arith, g.within); down = g.down; target_end = omega (arith, g.target, g.few) }, omega (arith, w.1))

  apart : (medium sector : ℕ) (r s : MediumFact) → IsOver facts medium sector r → IsOver facts medium sector s → r ≡ s
  apart medium sector r s o p =
      let same = one_start r s sector (found medium r.start r o.there).0 (found medium s.start s p.there).0 o.from_start o.below_end p.from_start p.below_end in
      let both : Some r ≡ Some s = sym o.there ∙ ap (range facts medium) same ∙ p.there in
      cc

  -- they make chains
  pub grid_chains : (f : Facts) × AreChains f m a e
  unfolding facts
  grid_chains = (
    facts,
    record {
      tables = record { of_mediums = refl; of_addresses = refl; elided_mediums = none_elided table.Medium _ mediums; elided_addresses = none_elided table.Address _ addresses };
      lead = record { down = leads; disjoint = apart };
    },
  )
