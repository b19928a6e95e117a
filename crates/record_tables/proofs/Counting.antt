-- The segments of a table's pair, counted patch by patch.
use Rattle.record_tables.proofs.Prelude.{◌≡◌, ◌≢◌, ◌⊎◌, ℕ, zero, suc, ◌+◌, ◌<◌, ◌≤◌, ◌==◌, cond, List, [], ◌∷◌, ◌++◌, length, get_or, take, drop, refl, sym, ap, ◌∙◌, arith, inl, inr, append-nil, eq-eqb, ne_eqb, drop_of_length-le, cases_eq, filter_more, sum_by_more_le, tag_of, Table, Patch, patch_segments, pair_segments, of_tag}
use Rattle.record_tables.proofs.Pairs.{few_segments}

-- the segments of the two patches from an index on
abbrev two_at : ℕ → List Patch → ℕ
two_at i ps = patch_segments (take 2 (drop i ps))

-- one patch more is one of them,
two_more : (i : ℕ) (ps : List Patch) (p : Patch) → (length ps ≡ i) ⊎ (length ps ≡ i + 1) → two_at i (ps ++ p ∷ []) ≡ two_at i ps + length p.segments
two_more zero (q ∷ r ∷ ps) p at = absurd (elim at [ inl e ↦ omega (arith, e) | inr e ↦ omega (arith, e) ])
two_more (suc i) [] p at = absurd (elim at [ inl e ↦ omega (arith, e) | inr e ↦ omega (arith, e) ])
two_more (suc i) (q ∷ ps) p at = two_more i ps p (elim at [ inl e ↦ inl (omega (arith, e)) | inr e ↦ inr (omega (arith, e)) ])
two_more zero _ p at = refl

-- or another
two_other : (i : ℕ) (ps : List Patch) (p : Patch) → length ps ≢ i → length ps ≢ i + 1 → two_at i (ps ++ p ∷ []) ≡ two_at i ps
two_other zero [] p first second = absurd (first refl)
two_other zero (q ∷ []) p first second = absurd (second refl)
two_other zero (q ∷ r ∷ ps) p first second = refl
two_other (suc i) [] p first second = ap (λ qs. patch_segments (take 2 qs)) (drop_of_length-le (p ∷ []) {i = suc i} (omega arith) ∙ sym (drop_of_length-le [] {i = suc i} (omega arith)))
two_other (suc i) (q ∷ ps) p first second = two_other i ps p (λ e. first (omega (arith, e))) (λ e. second (omega (arith, e)))

-- the next of all patches
module _ (t : Table) (i at : ℕ) (all : List Patch) (p : Patch) (own : ℕ) (l : at < length all) (e : p ≡ get_or all at p) (h : own ≡ length (of_tag (tag_of t) (take at all))) where
  abbrev Mine : List Patch
  Mine = of_tag (tag_of t) (take at all)

  mine : of_tag (tag_of t) (take (at + 1) all) ≡ Mine ++ cond (p.tag == tag_of t) (p ∷ []) []
  mine = filter_more (λ q. q.tag == tag_of t) all at p l ∙ ap (λ (q : Patch). Mine ++ cond (q.tag == tag_of t) (q ∷ []) []) (sym e)

  pub pair_more : p.tag ≡ tag_of t → (own ≡ i) ⊎ (own ≡ i + 1) → pair_segments t i (take (at + 1) all) ≡ pair_segments t i (take at all) + length p.segments
  pair_more same where_it_is =
      ap (λ ps. two_at i ps) (mine ∙ ap (λ b. Mine ++ cond b (p ∷ []) []) (eq-eqb p.tag (tag_of t) same)) ∙ two_more i Mine p (elim where_it_is [ inl first ↦ inl (sym h ∙ first) | inr second ↦ inr (sym h ∙ second) ])

  pub pair_kept : (p.tag ≡ tag_of t → (own ≢ i) × (own ≢ i + 1)) → pair_segments t i (take (at + 1) all) ≡ pair_segments t i (take at all)
  pair_kept other = ap (λ ps. two_at i ps) mine ∙ elim (cases_eq p.tag (tag_of t)) [
    | inl same ↦ ap (λ b. two_at i (Mine ++ cond b (p ∷ []) [])) (eq-eqb p.tag (tag_of t) same) ∙ two_other i Mine p (λ f. (other same).0 (h ∙ f)) (λ f. (other same).1 (h ∙ f))
    | inr none ↦ ap (λ b. two_at i (Mine ++ cond b (p ∷ []) [])) (ne_eqb p.tag (tag_of t) none) ∙ ap (λ ps. two_at i ps) (append-nil Mine)
  ]

  -- with its segments they are no more than all
  pub pair_room : pair_segments t i (take at all) + length p.segments ≤ patch_segments all
  pair_room =
      let pair = few_segments t i (take at all) in
      let next = sum_by_more_le (λ (q : Patch). length q.segments) all at p l in
      omega (arith, pair, next, ap (λ (q : Patch). length q.segments) e)
