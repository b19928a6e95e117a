-- One more elision of a table: it is sound beside the older ones, and elides one id more.
use Rattle.std.proofs.lemmas.Bool.Decides.{nat_tests}
use Rattle.std.proofs.Common.{◌≡◌, ◌⊎◌, ◌↔◌, ℕ, ◌+◌, ◌-◌, ◌<◌, ◌≤◌, true, List, [], ◌∷◌, ◌++◌, sym, ap, ◌∙◌, arith, inl, inr, subst, get_or, Contains, IsTrue, eq-eqb}
use Rattle.std.proofs.lemmas.Bool.{and_from, and_parts, cases_lt, leb-true, le-leb, or_cases, or_left, or_right}
use Rattle.std.proofs.lemmas.List.Elements.{Contains-get_or}
use Rattle.std.proofs.lemmas.List.Folds.{list_any-append}
use Rattle.std.proofs.lemmas.List.Quantifiers.{all_pairs_push}
use Rattle.array_spec.specs.Prelude.{tag_of, elides, is_elided, Table, ElisionFact, AreElisionsSound, FitTogether, Grows}
use Rattle.pyramid.specs.Prelude.{here, either, nowhere}
use Rattle.memory_spec.specs.Eliding.{IsElisionOf}
use Rattle.memory_spec.specs.lemmas.Elided.{any_of, of_any}

module _ (t : Table) where
  -- ---- elided ids

  abbrev IsElided : List ElisionFact → ℕ → Type 0
  IsElided es i = IsTrue (is_elided es t i)

  -- an elision elides each id of its range
  pub elides_within : (g : ElisionFact) (i : ℕ) → tag_of g.table ≡ tag_of t → g.first ≤ i → i ≤ g.last → elides t i g ≡ true
  elides_within g i same low high = and_from _ _ (and_from _ _ (eq-eqb (tag_of g.table) (tag_of t) same) (le-leb g.first i low)) (le-leb i g.last high)

  pub elided_by : (es : List ElisionFact) (g : ElisionFact) (i : ℕ) → Contains es g → tag_of g.table ≡ tag_of t → g.first ≤ i → i ≤ g.last → IsElided es i
  elided_by es g i c same low high = any_of (elides t i) es g c (elides_within g i same low high)

  -- and what is elided is so by one of them
  pub eliding_one : (es : List ElisionFact) (i : ℕ) → IsElided es i → (g : ElisionFact) × Contains es g × (g.first ≤ i) × (i ≤ g.last)
  eliding_one es i e = grind (arith, nat_tests, of_any, and_parts, leb-true)

  -- ---- one more

  module _ (es : List ElisionFact) (number id : ℕ) (f : ElisionFact) (h : IsElisionOf t (IsElided es) number id f) where
    tag : tag_of f.table ≡ tag_of t
    tag = ap tag_of h.of_table

    -- a range that reaches it lies in it
    begins : (g : ElisionFact) → Contains es g → tag_of g.table ≡ tag_of t → f.first ≤ g.last + 1 → f.first ≤ g.first
    begins g c same near = elim (cases_lt g.first f.first) [
      | inl early ↦ absurd (h.before (f.first - 1) (omega arith) (elided_by es g (f.first - 1) c same (omega arith) (omega arith)))
      | inr fine ↦ fine
    ]

    ends : (g : ElisionFact) → Contains es g → tag_of g.table ≡ tag_of t → g.first ≤ f.last + 1 → g.last ≤ f.last
    ends g c same near = elim (cases_lt f.last g.last) [
      | inl late ↦ absurd (h.behind (elided_by es g (f.last + 1) c same near (omega arith)))
      | inr fine ↦ fine
    ]

    fits : (g : ElisionFact) → Contains es g → tag_of g.table ≡ tag_of f.table → FitTogether g f
    fits g c alike =
        let same : tag_of g.table ≡ tag_of t = alike ∙ tag in
        elim (cases_lt (g.last + 1) f.first) [
          | inl low ↦ inl low
          | inr near ↦ elim (cases_lt (f.last + 1) g.first) [
            | inl high ↦ inr (inl high)
            | inr close ↦ inr (inr (inr (begins g c same near, ends g c same close)))
          ]
        ]

    grows : ((g : ElisionFact) → Contains es g → g.seq.0 < number) → (g : ElisionFact) → Contains es g → Grows g f × Grows f g
    grows below g c = (
      λ same tags newer. ends g c (tags ∙ tag) (let a = h.has.0 in let b = h.has.1 in omega (arith, same, a, b)),
      λ same tags newer. (let less = below g c in let at = h.numbered in absurd (omega (arith, less, at, newer))),
    )

    pub sound_push : ((g : ElisionFact) → Contains es g → g.seq.0 < number) → AreElisionsSound es → AreElisionsSound (es ++ f ∷ [])
    sound_push below s = record {
      grow = all_pairs_push (λ a b. Grows a b × Grows b a) es f s.grow (λ k d l. grows below (get_or es k d) (Contains-get_or es k d l));
      fit = all_pairs_push (λ a b. tag_of a.table ≡ tag_of b.table → FitTogether a b) es f s.fit (λ k d l. fits (get_or es k d) (Contains-get_or es k d l));
    }

    pub elided_push : (i : ℕ) → IsElided (es ++ f ∷ []) i ↔ (IsElided es i ⊎ (i ≡ id))
    elided_push i = (
      λ e. elim (or_cases (is_elided es t i) (is_elided (f ∷ []) t i) (sym (list_any-append (elides t i) es (f ∷ [])) ∙ e)) [
        | inl old ↦ inl old
        | inr new ↦
            let w = eliding_one (f ∷ []) i new in
            let same : w.0 ≡ f = elim (either f w.0 [] w.1) [ inl is ↦ is | inr none ↦ absurd (nowhere w.0 none) ] in
            h.within i (subst (λ (x : ElisionFact). x.first ≤ i) same w.2) (subst (λ (x : ElisionFact). i ≤ x.last) same w.3)
      ],
      λ e. list_any-append (elides t i) es (f ∷ []) ∙ elim e [
        | inl old ↦ or_left (is_elided es t i) (is_elided (f ∷ []) t i) old
        | inr is ↦ or_right (is_elided es t i) (is_elided (f ∷ []) t i) (elided_by (f ∷ []) f i (here f []) tag (let a = h.has.0 in omega (arith, a, is)) (let b = h.has.1 in omega (arith, b, is)))
      ],
    )
