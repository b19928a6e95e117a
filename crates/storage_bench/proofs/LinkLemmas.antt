-- Links of mediums, and the chains that they make.
use Rattle.std.proofs.Common.{◌≡◌, ◌⊎◌, ◌↔◌, ℕ, ◌+◌, ◌<◌, Bool, List, [], ◌∷◌, ◌++◌, refl, sym, ap, ◌∙◌, arith, inl, inr, Some, All, Contains}
use Rattle.std.proofs.lemmas.List.Elements.{All-contains}
use Rattle.pyramid.specs.Prelude.{Table, Facts, IsOver, is_empty_range, medium_key, key_of, is_elided, range, AreElidedRanges, MediumFact, AddressFact, ElidedRanges, ranges_of, Layers, facts_in, facts_of, AreBelow, said_found, all_below, all_contained, taken_of, either, nowhere}
use Rattle.pur_base.specs.declared.request.Table.TheVariants as table
use Rattle.fact_codec.specs.Fact.{LeadsDown}
use Rattle.medium_table.specs.Prelude.{number, range_from, AreDisjoint, AreDescending}
use Rattle.chain_reads.specs.Chains.{AreChains}
use Rattle.storage_bench.specs.Links.{IsLink, AreLinks}

-- a link that is taken in
module _ (n : ℕ) (ps : List (List MediumFact)) (us : List MediumFact) (r : MediumFact) (all : All (λ x. IsLink x × (x.seq.0 < n)) (facts_of ps ++ us)) (next : r.seq.0 ≡ n) where
  pub link_newest : AreBelow number (facts_of ps ++ us) (r ∷ [])
  link_newest = all_below number (facts_of ps ++ us) (r ∷ []) (λ f g c d.
      let less = (All-contains (λ x. IsLink x × (x.seq.0 < n)) (facts_of ps ++ us) f all c).1 in
      elim (either r g [] d) [ inl same ↦ rw same (omega (arith, less, next)) | inr none ↦ absurd (nowhere g none) ])

  pub one_link_more : (new : List MediumFact) → IsLink r → ((f : MediumFact) → Contains new f ↔ (Contains us f ⊎ Contains (r ∷ []) f)) → All (λ x. IsLink x × (x.seq.0 < n + 1)) (facts_of ps ++ new)
  one_link_more new is taken = all_contained (λ (x : MediumFact). IsLink x × (x.seq.0 < n + 1)) (facts_of ps ++ new) (λ f c. elim ((taken_of ps us new r taken f).0 c) [
    | inl old ↦ (let was = All-contains (λ x. IsLink x × (x.seq.0 < n)) (facts_of ps ++ us) f all old in let less = was.1 in (was.0, omega (arith, less)))
    | inr same ↦ rw same (is, omega (arith, next))
  ])

module _ (n : ℕ) (m : Layers MediumFact) (links : AreLinks n m) where
  found : (elided : ℕ → Bool) (medium start : ℕ) (r : MediumFact) → range_from (facts_in m) elided medium start ≡ Some r → IsLink r × (medium_key r ≡ key_of medium start)
  found elided medium start r said =
      let w = said_found medium_key number is_empty_range (facts_in m) elided (key_of medium start) r said in
      ((All-contains (λ x. IsLink x × (x.seq.0 < n)) (facts_in m) r links w.0).0, w.1)

  -- a medium has one
  alone : (elided : ℕ → Bool) (medium : ℕ) (r s : MediumFact) → range_from (facts_in m) elided medium r.start ≡ Some r → range_from (facts_in m) elided medium s.start ≡ Some s → r ≡ s
  alone elided medium r s a b =
      let x = (found elided medium r.start r a).0 in
      let y = (found elided medium s.start s b).0 in
      let same : r.start ≡ s.start = x.start ∙ sym y.start in
      let both : Some r ≡ Some s = sym a ∙ ap (range_from (facts_in m) elided medium) same ∙ b in
      cc

  pub links_disjoint : (elided : ℕ → Bool) (medium : ℕ) → AreDisjoint (facts_in m) elided medium
  links_disjoint elided medium = record {
    whole = λ r there. (let w = (found elided medium r.start r there).0 in omega (arith, w.start, w.end));
    apart = λ x r s o p. alone elided medium r s o.there p.there;
  }

  pub links_descend : (elided : ℕ → Bool) → AreDescending (facts_in m) elided
  links_descend elided = record {
    down = λ r v. (found elided r.medium.0 r.start r v).0.down;
    mediums = λ r v. (found elided r.medium.0 r.start r v).0.medium;
    starts = λ r v. (let w = (found elided r.medium.0 r.start r v).0 in omega (arith, w.start));
  }

  module _ (a : Layers AddressFact) (e : ElidedRanges) (mediums : ranges_of e table.Medium ≡ []) (addresses : ranges_of e table.Address ≡ []) where
    facts : Facts
    facts = record { objects = []; mediums = facts_in m; addresses = facts_in a; segments = []; elisions = [] }

    none_elided : (t : Table) (ranges : List (ℕ × ℕ)) → ranges ≡ [] → AreElidedRanges [] t ranges
    none_elided t ranges none = rw none (record { same = λ id. (λ h. h, λ h. h); whole = tt; apart = λ i j d l w. absurd (omega (arith, w)) })

    leads : (medium : ℕ) (r : MediumFact) → range facts medium r.start ≡ Some r → LeadsDown r × (r.medium.0 ≡ medium)
    unfolding facts
    leads medium r said =
        let w = found (is_elided [] table.Medium) medium r.start r said in
        let k = w.0 in
        (record { some = omega (arith, k.start, k.end); end = omega (arith, k.end); down = k.down; target_end = omega (arith, k.start, k.end, k.target) }, omega (arith, w.1, k.start))

    apart : (medium sector : ℕ) (r s : MediumFact) → IsOver facts medium sector r → IsOver facts medium sector s → r ≡ s
    unfolding facts
    apart medium sector r s o p = alone (is_elided [] table.Medium) medium r s o.there p.there

    pub links_chain : (f : Facts) × AreChains f m a e
    unfolding facts
    links_chain = (
      facts,
      record {
        tables = record { of_mediums = refl; of_addresses = refl; elided_mediums = none_elided table.Medium _ mediums; elided_addresses = none_elided table.Address _ addresses };
        lead = record { down = leads; disjoint = apart };
      },
    )
