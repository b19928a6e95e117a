-- Elisions are sound where their spans, in order, say so.
use Rattle.table_soundness.proofs.Prelude.{nat_tests, ◌≡◌, ◌≢◌, ◌⊎◌, ℕ, ◌^◌, ◌<◌, ◌≤◌, ◌∙◌, List, length, get_or, map, swap, refl, sym, ap, subst, arith, inl, inr, All, AllPairs, IsPermutation, cases_eq, All-map, All-weaker, All-permutation, IsPermutation-keeps, IsPermutation-sym, tag_of, ElisionFact, Table, AreElisionsSound, FitTogether, Grows, IsFact, Span, span_of, BothGrow, FitSpans, GrowSpans, IsSpan, pairs_map, pairs_unmap}
use Rattle.std.proofs.lemmas.List.Edits.{Swapped, swapped_from_swap, length-swap}
use Rattle.pur_base.specs.declared.facts.AnyFact.TheVariants as any
use Rattle.pur_base.specs.declared.request.Table.TheVariants as table

-- ---- a symmetric relation of pairs holds in any order

-- where a swap of a and b took the element at m from
abbrev From : ℕ → ℕ → ℕ → ℕ → Type 0
From a b m k = ((m ≡ a) × (k ≡ b)) ⊎ (((m ≡ b) × (k ≡ a)) ⊎ ((m ≢ a) × (m ≢ b) × (k ≡ m)))

origin : {X : Type 0} (f g : ℕ → X) (a b m : ℕ) → Swapped f g a b → (m ≡ a) ⊎ (m ≢ a) → (m ≡ b) ⊎ (m ≢ b) → (k : ℕ) × From a b m k × (g m ≡ f k)
origin f g a b m s (inl e) y = (b, inl (e, refl), ap g e ∙ s.0)
origin f g a b m s (inr n) (inl e) = (a, inr (inl (e, refl)), ap g e ∙ s.1)
origin f g a b m s (inr n) (inr o) = (m, inr (inr (n, o, refl)), s.2 m n o)

module _ {X : Type 0} (R : X → X → Type 0) (symmetric : (x y : X) → R x y → R y x) where
  any_two : (xs : List X) → AllPairs R xs → (i j : ℕ) (d : X) → i < length xs → j < length xs → i ≢ j → R (get_or xs i d) (get_or xs j d)
  any_two xs h i j d p q ne = grind (arith, nat_tests, get_or)

  pairs-swap : (xs : List X) (a b : ℕ) → a < length xs → b < length xs → AllPairs R xs → AllPairs R (swap xs a b)
  pairs-swap xs a b p q h i j d less within =
      let len = length-swap xs a b in
      let s = swapped_from_swap xs (swap xs a b) a b d p q refl in
      let x = origin (λ k. get_or xs k d) (λ k. get_or (swap xs a b) k d) a b i s (cases_eq i a) (cases_eq i b) in
      let y = origin (λ k. get_or xs k d) (λ k. get_or (swap xs a b) k d) a b j s (cases_eq j a) (cases_eq j b) in
      let one = any_two xs h x.0 y.0 d (omega (arith, x.1)) (omega (arith, y.1)) (λ e. omega (arith, e, x.1, y.1)) in
      subst (λ u. R u (get_or (swap xs a b) j d)) (sym x.2) (subst (λ v. R (get_or xs x.0 d) v) (sym y.2) one)

  pub pairs-permutation : (old new : List X) → IsPermutation old new → AllPairs R old → AllPairs R new
  pairs-permutation old new moved h = IsPermutation-keeps old (AllPairs R) h pairs-swap new moved

fit_symmetric : (s t : Span) → FitSpans s t → FitSpans t s
fit_symmetric s t (inl a) = inr (inl a)
fit_symmetric s t (inr (inl a)) = inl a
fit_symmetric s t (inr (inr (inl a))) = inr (inr (inr a))
fit_symmetric s t (inr (inr (inr a))) = inr (inr (inl a))

grow_symmetric : (s t : Span) → BothGrow s t → BothGrow t s
grow_symmetric s t h = (h.1, h.0)

-- ---- elisions and their spans

-- an elision that may be spelled
abbrev IsSmall : ElisionFact → Type 0
IsSmall f = (f.first ≤ f.last) × (f.last < 2 ^ 64) × (f.seq.0 < 2 ^ 64)

tag_small : (t : Table) → tag_of t < 8
tag_small table.Object = omega arith
tag_small table.Medium = omega arith
tag_small table.Address = omega arith
tag_small table.Segment = omega arith
tag_small table.Elision = omega arith

small_of : (f : ElisionFact) → IsFact (any.Elision f) → IsSmall f
small_of f h = let n = h.lawful.number.1 in (h.lawful.statement.1, h.fits, omega (arith, n))

pub span_small : (f : ElisionFact) → IsFact (any.Elision f) → IsSpan (span_of f)
span_small f h = grind (arith, nat_tests, small_of, tag_small)

-- elisions of other tables lie apart
apart : (f g : ElisionFact) → IsSmall f → IsSmall g → tag_of f.table < tag_of g.table → FitSpans (span_of f) (span_of g)
apart f g hf hg less = let a = hf.1 in inl (omega (arith, a, less))

fit_of_spans : (f g : ElisionFact) → FitSpans (span_of f) (span_of g) → tag_of f.table ≡ tag_of g.table → FitTogether f g
fit_of_spans f g (inl a) e = inl (omega (arith, a, e))
fit_of_spans f g (inr (inl a)) e = inr (inl (omega (arith, a, e)))
fit_of_spans f g (inr (inr (inl a))) e = let x = a.0 in let y = a.1 in inr (inr (inl (omega (arith, x, e), omega (arith, y, e))))
fit_of_spans f g (inr (inr (inr a))) e = let x = a.0 in let y = a.1 in inr (inr (inr (omega (arith, x, e), omega (arith, y, e))))

spans_of_fit : (f g : ElisionFact) → tag_of f.table ≡ tag_of g.table → FitTogether f g → FitSpans (span_of f) (span_of g)
spans_of_fit f g e (inl a) = inl (omega (arith, a, e))
spans_of_fit f g e (inr (inl a)) = inr (inl (omega (arith, a, e)))
spans_of_fit f g e (inr (inr (inl a))) = let x = a.0 in let y = a.1 in inr (inr (inl (omega (arith, x, e), omega (arith, y, e))))
spans_of_fit f g e (inr (inr (inr a))) = let x = a.0 in let y = a.1 in inr (inr (inr (omega (arith, x, e), omega (arith, y, e))))

fit_spans : (f g : ElisionFact) → IsSmall f → IsSmall g → (tag_of f.table ≡ tag_of g.table → FitTogether f g) → FitSpans (span_of f) (span_of g)
fit_spans f g hf hg h = grind (arith, nat_tests, apart, fit_symmetric, spans_of_fit)

grow_of_span : (f g : ElisionFact) → GrowSpans (span_of f) (span_of g) → Grows f g
grow_of_span f g h first tags less = let le = h (omega (arith, first, tags)) less in omega (arith, le, tags)

span_of_grow : (f g : ElisionFact) → IsSmall f → IsSmall g → Grows f g → GrowSpans (span_of f) (span_of g)
span_of_grow f g hf hg h same less = grind (arith, nat_tests)

-- ---- all of them

module _ (facts : List ElisionFact) (spans : List Span) (lawful : All (λ f. IsFact (any.Elision f)) facts) (moved : IsPermutation (map span_of facts) spans) where
  back : IsPermutation spans (map span_of facts)
  back = IsPermutation-sym (map span_of facts) spans moved

  small : All IsSmall facts
  small = All-weaker (λ f. IsFact (any.Elision f)) IsSmall small_of facts lawful

  pub all_spans : All IsSpan spans
  all_spans = All-permutation IsSpan (map span_of facts) spans moved (All-map IsSpan span_of facts (All-weaker (λ f. IsFact (any.Elision f)) (λ f. IsSpan (span_of f)) span_small facts lawful))

  pub sound_from_spans : AllPairs FitSpans spans → AllPairs BothGrow spans → AreElisionsSound facts
  sound_from_spans fit grow =
      let fits = pairs_unmap FitSpans span_of facts (pairs-permutation FitSpans fit_symmetric spans (map span_of facts) back fit) in
      let grows = pairs_unmap BothGrow span_of facts (pairs-permutation BothGrow grow_symmetric spans (map span_of facts) back grow) in
      record {
        grow = λ i j d low l. let g = grows i j d low l in (grow_of_span (get_or facts i d) (get_or facts j d) g.0, grow_of_span (get_or facts j d) (get_or facts i d) g.1);
        fit = λ i j d low l. fit_of_spans (get_or facts i d) (get_or facts j d) (fits i j d low l);
      }

  pub spans_fit : AreElisionsSound facts → AllPairs FitSpans spans
  spans_fit h = pairs-permutation FitSpans fit_symmetric (map span_of facts) spans moved (pairs_map FitSpans span_of facts (λ i j d low l.
      fit_spans (get_or facts i d) (get_or facts j d) (small i d (omega (arith, low, l))) (small j d l) (h.fit i j d low l)))

  pub spans_grow : AreElisionsSound facts → AllPairs BothGrow spans
  spans_grow h = pairs-permutation BothGrow grow_symmetric (map span_of facts) spans moved (pairs_map BothGrow span_of facts (λ i j d low l.
      let sf = small i d (omega (arith, low, l)) in
      let sg = small j d l in
      let g = h.grow i j d low l in
      (span_of_grow (get_or facts i d) (get_or facts j d) sf sg g.0, span_of_grow (get_or facts j d) (get_or facts i d) sg sf g.1)))
