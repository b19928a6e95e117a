-- Why facts are left out.
use Rattle.pyramid.proofs.Prelude.{nat_tests, ◌≡◌, ◌⊎◌, ℕ, suc, Bool, true, false, List, [], ◌∷◌, ◌++◌, refl, sym, ap, ◌∙◌, arith, inl, inr, Contains, IsTrue, filter, nat_lt, if◌then◌else◌, option_and_then, ltb-false, Contains-append_left, Contains-append_right, Contains-append_cases, id_of, Ascends, has_key, IsApart, IsOrdered, IsBefore, HasNewer, AreBelow, IsFlushed, IsMerged, LiesInOne, if_passes, lasts, merged, stays, weave, here, there, either, nowhere, filtered, of_filter, newest-append, ascends_merged, ascends_filter, merged_newest, filter_newest, below_at}
use Rattle.pyramid.proofs.FlushLemmas.{ascends_lasts, newest_lasts}

module _ {F : Type 0} (key : F → ℕ) where
  pub of_lasts : (xs : List F) (f : F) → Contains (lasts key xs) f → Contains xs f
  of_lasts [] f c = c
  of_lasts (x ∷ []) f c = c
  of_lasts (x ∷ y ∷ ys) f c = one (nat_lt (key x) (key y)) (λ d. of_lasts (y ∷ ys) f d) c
    where
      one : (b : Bool) → (Contains (lasts key (y ∷ ys)) f → Contains (y ∷ ys) f) → Contains (if b then x ∷ lasts key (y ∷ ys) else lasts key (y ∷ ys)) f → Contains (x ∷ y ∷ ys) f
      one true inner c = elim (either x f (lasts key (y ∷ ys)) c) [ inl same ↦ rw same (here x (y ∷ ys)) | inr d ↦ there x f (y ∷ ys) (inner d) ]
      one false inner c = there x f (y ∷ ys) (inner c)

module _ {F : Type 0} (key number : F → ℕ) where
  newer_there : (x f : F) (xs : List F) → HasNewer key number xs f → HasNewer key number (x ∷ xs) f
  newer_there x f xs h = (h.0, there x h.0 xs h.1, h.2, h.3)

  pub left_by_lasts : (xs : List F) (f : F) → IsOrdered key number xs → Contains xs f → Contains (lasts key xs) f ⊎ HasNewer key number xs f
  left_by_lasts [] f h c = absurd (nowhere f c)
  left_by_lasts (x ∷ []) f h c = inl c
  left_by_lasts (x ∷ y ∷ ys) f h c =
      one (either x f (y ∷ ys) c) (nat_lt (key x) (key y)) refl (λ d. left_by_lasts (y ∷ ys) f (λ i j d l m. h (suc i) (suc j) d (omega (arith, l)) (omega (arith, m))) d)
    where
      first : IsBefore key number x y
      first = h 0 1 x (omega arith) (omega arith)

      one : (f ≡ x) ⊎ Contains (y ∷ ys) f → (b : Bool) → nat_lt (key x) (key y) ≡ b → (Contains (y ∷ ys) f → Contains (lasts key (y ∷ ys)) f ⊎ HasNewer key number (y ∷ ys) f)
          → Contains (if b then x ∷ lasts key (y ∷ ys) else lasts key (y ∷ ys)) f ⊎ HasNewer key number (x ∷ y ∷ ys) f
      one (inl same) true e inner = inl (rw same (here x (lasts key (y ∷ ys))))
      one (inl same) false e inner = inr (rw same (elim first [
        | inl less ↦ let le = ltb-false _ _ e in absurd (omega (arith, less, le))
        | inr both ↦ (y, there x y (y ∷ ys) (here y ys), sym both.0, both.1)
      ]))
      one (inr c) b e inner = two b (inner c)
        where
          two : (b : Bool) → Contains (lasts key (y ∷ ys)) f ⊎ HasNewer key number (y ∷ ys) f → Contains (if b then x ∷ lasts key (y ∷ ys) else lasts key (y ∷ ys)) f ⊎ HasNewer key number (x ∷ y ∷ ys) f
          two true (inl d) = inl (there x f (lasts key (y ∷ ys)) d)
          two false (inl d) = inl d
          two b (inr n) = inr (newer_there x f (y ∷ ys) n)

  -- what a flush makes
  pub flushed : (us : List F) → IsOrdered key number us → IsFlushed key number us (lasts key us)
  flushed us h = record {
    ascends = ascends_lasts key number us h;
    source = of_lasts key us;
    dropped = λ f c. left_by_lasts us f h c;
    newest = λ k. newest_lasts key number k us h;
  }

module _ {F : Type 0} (key : F → ℕ) where
  of_weave : (x : F) (rest : List F → List F) (P : Type 0) (f : F) → ((zs : List F) → Contains (rest zs) f → P ⊎ Contains zs f) → (ys : List F) → Contains (weave key x rest ys) f → ((f ≡ x) ⊎ P) ⊎ Contains ys f
  of_weave x rest P f r [] c = elim (either x f (rest []) c) [ inl same ↦ inl (inl same) | inr d ↦ elim (r [] d) [ inl p ↦ inl (inr p) | inr e ↦ inr e ] ]
  of_weave x rest P f r (y ∷ ys) c = one (nat_lt (key x) (key y)) (nat_lt (key y) (key x)) (λ d. of_weave x rest P f r ys d) c
    where
      one : (p q : Bool) → (Contains (weave key x rest ys) f → ((f ≡ x) ⊎ P) ⊎ Contains ys f) → Contains (if p then x ∷ rest (y ∷ ys) else if q then y ∷ weave key x rest ys else y ∷ rest ys) f → ((f ≡ x) ⊎ P) ⊎ Contains (y ∷ ys) f
      one true q inner c = elim (either x f (rest (y ∷ ys)) c) [ inl same ↦ inl (inl same) | inr d ↦ elim (r (y ∷ ys) d) [ inl p ↦ inl (inr p) | inr e ↦ inr e ] ]
      one false true inner c = elim (either y f (weave key x rest ys) c) [
        | inl same ↦ inr (rw same (here y ys))
        | inr d ↦ elim (inner d) [ inl p ↦ inl p | inr e ↦ inr (there y f ys e) ]
      ]
      one false false inner c = elim (either y f (rest ys) c) [
        | inl same ↦ inr (rw same (here y ys))
        | inr d ↦ elim (r ys d) [ inl p ↦ inl (inr p) | inr e ↦ inr (there y f ys e) ]
      ]

  pub of_merged : (xs ys : List F) (f : F) → Contains (merged key xs ys) f → Contains xs f ⊎ Contains ys f
  of_merged [] ys f c = inr c
  of_merged (x ∷ xs) ys f c = elim (of_weave x (merged key xs) (Contains xs f) f (λ zs d. of_merged xs zs f d) ys c) [
    | inl a ↦ elim a [ inl same ↦ inl (rw same (here x xs)) | inr d ↦ inl (there x f xs d) ]
    | inr d ↦ inr d
  ]

  -- a fact of the second stays
  weave_right : (x : F) (rest : List F → List F) (f : F) → ((zs : List F) → Contains zs f → Contains (rest zs) f) → (ys : List F) → Contains ys f → Contains (weave key x rest ys) f
  weave_right x rest f r [] c = absurd (nowhere f c)
  weave_right x rest f r (y ∷ ys) c = one (either y f ys c) (nat_lt (key x) (key y)) (nat_lt (key y) (key x)) (λ d. weave_right x rest f r ys d)
    where
      one : (f ≡ y) ⊎ Contains ys f → (p q : Bool) → (Contains ys f → Contains (weave key x rest ys) f) → Contains (if p then x ∷ rest (y ∷ ys) else if q then y ∷ weave key x rest ys else y ∷ rest ys) f
      one d true q inner = there x f (rest (y ∷ ys)) (r (y ∷ ys) c)
      one (inl same) false true inner = rw same (here y (weave key x rest ys))
      one (inr d) false true inner = there y f (weave key x rest ys) (inner d)
      one (inl same) false false inner = rw same (here y (rest ys))
      one (inr d) false false inner = there y f (rest ys) (r ys d)

  pub merged_right : (xs ys : List F) (f : F) → Contains ys f → Contains (merged key xs ys) f
  merged_right [] ys f c = c
  merged_right (x ∷ xs) ys f c = weave_right x (merged key xs) f (λ zs d. merged_right xs zs f d) ys c

  -- a fact of the first stays, or the second has its key
  abbrev StaysOr : (List F → List F) → F → List F → Type 0
  StaysOr make f zs = Contains (make zs) f ⊎ ((g : F) × Contains zs g × (key g ≡ key f))

  stands_there : (y f : F) (ys : List F) → ((g : F) × Contains ys g × (key g ≡ key f)) → ((g : F) × Contains (y ∷ ys) g × (key g ≡ key f))
  stands_there y f ys h = (h.0, there y h.0 ys h.1, h.2)

  weave_first : (x : F) (rest : List F → List F) (ys : List F) → StaysOr (weave key x rest) x ys
  weave_first x rest [] = inl (here x (rest []))
  weave_first x rest (y ∷ ys) = one (weave_first x rest ys) (nat_lt (key x) (key y)) (nat_lt (key y) (key x)) refl refl
    where
      one : Contains (weave key x rest ys) x ⊎ ((g : F) × Contains ys g × (key g ≡ key x)) → (p q : Bool) → nat_lt (key x) (key y) ≡ p → nat_lt (key y) (key x) ≡ q
          → Contains (if p then x ∷ rest (y ∷ ys) else if q then y ∷ weave key x rest ys else y ∷ rest ys) x ⊎ ((g : F) × Contains (y ∷ ys) g × (key g ≡ key x))
      one i true q a b = inl (here x (rest (y ∷ ys)))
      one (inl i) false true a b = inl (there y x (weave key x rest ys) i)
      one (inr s) false true a b = inr (stands_there y x ys s)
      one i false false a b = let le = ltb-false _ _ a in let ge = ltb-false _ _ b in inr (y, here y ys, omega (arith, le, ge))

  weave_rest : (x : F) (rest : List F → List F) (f : F) → ((zs : List F) → StaysOr rest f zs) → (ys : List F) → StaysOr (weave key x rest) f ys
  weave_rest x rest f r [] = elim (r []) [ inl c ↦ inl (there x f (rest []) c) | inr s ↦ inr s ]
  weave_rest x rest f r (y ∷ ys) = one (weave_rest x rest f r ys) (nat_lt (key x) (key y)) (nat_lt (key y) (key x))
    where
      one : Contains (weave key x rest ys) f ⊎ ((g : F) × Contains ys g × (key g ≡ key f)) → (p q : Bool)
          → Contains (if p then x ∷ rest (y ∷ ys) else if q then y ∷ weave key x rest ys else y ∷ rest ys) f ⊎ ((g : F) × Contains (y ∷ ys) g × (key g ≡ key f))
      one i true q = elim (r (y ∷ ys)) [ inl c ↦ inl (there x f (rest (y ∷ ys)) c) | inr s ↦ inr s ]
      one (inl i) false true = inl (there y f (weave key x rest ys) i)
      one (inr s) false true = inr (stands_there y f ys s)
      one i false false = elim (r ys) [ inl c ↦ inl (there y f (rest ys) c) | inr s ↦ inr (stands_there y f ys s) ]

  pub merged_left : (xs ys : List F) (f : F) → Contains xs f → Contains (merged key xs ys) f ⊎ ((g : F) × Contains ys g × (key g ≡ key f))
  merged_left [] ys f c = absurd (nowhere f c)
  merged_left (x ∷ xs) ys f c = one (either x f xs c) (λ d zs. merged_left xs zs f d)
    where
      one : (f ≡ x) ⊎ Contains xs f → (Contains xs f → (zs : List F) → Contains (merged key xs zs) f ⊎ ((g : F) × Contains zs g × (key g ≡ key f)))
          → Contains (weave key x (merged key xs) ys) f ⊎ ((g : F) × Contains ys g × (key g ≡ key f))
      one (inl same) inner = rw same (weave_first x (merged key xs) ys)
      one (inr d) inner = weave_rest x (merged key xs) f (inner d) ys

module _ {F : Type 0} (key number : F → ℕ) where
  -- what two patches lose by a merge
  pub left_by_merged : (xs ys : List F) (f : F) → AreBelow number xs ys → Contains (xs ++ ys) f → Contains (merged key xs ys) f ⊎ HasNewer key number (xs ++ ys) f
  left_by_merged xs ys f below c = elim (Contains-append_cases xs ys f c) [
    | inr d ↦ inl (merged_right key xs ys f d)
    | inl d ↦ elim (merged_left key xs ys f d) [
      | inl e ↦ inl e
      | inr s ↦ inr (s.0, Contains-append_right xs ys s.0 s.1, s.2, below_at number xs ys f s.0 below d s.1)
    ]
  ]

  stays_not : (empty : F → Bool) (oldest : Bool) (elided : ℕ → Bool) (f : F) → stays key empty oldest elided f ≡ false → IsTrue (elided (id_of (key f))) ⊎ (IsTrue oldest × IsTrue (empty f))
  stays_not empty oldest elided f e = grind (arith, nat_tests, id_of)

  -- what a merge keeps, before facts that lie in others are dropped
  pub merged_is : (empty : F → Bool) (within : F → F → Bool) (apart : IsApart within) (oldest : Bool) (elided : ℕ → Bool) (xs ys : List F) → Ascends key xs → Ascends key ys → AreBelow number xs ys
      → IsMerged key number empty within oldest elided xs ys (filter (stays key empty oldest elided) (merged key xs ys))
  merged_is empty within apart oldest elided xs ys a b below = record {
    ascends = ascends_filter key (stays key empty oldest elided) (merged key xs ys) (ascends_merged key xs ys a b);
    source = λ f c. elim (of_merged key xs ys f (of_filter (stays key empty oldest elided) (merged key xs ys) f c)) [
      | inl d ↦ Contains-append_left xs ys f d
      | inr d ↦ Contains-append_right xs ys f d
    ];
    dropped = λ f c. elim (left_by_merged xs ys f below c) [
      | inl d ↦ decide f d (stays key empty oldest elided f) refl
      | inr n ↦ inr (inr (inl n))
    ];
    alone = λ nest f g c d w. absurd (apart f g w);
    newest = λ _ k. filter_newest key number k (stays key empty oldest elided) (merged key xs ys) (ascends_merged key xs ys a b)
        ∙ ap (λ o. option_and_then (if_passes (stays key empty oldest elided)) o) (merged_newest key number k xs ys a b below ∙ sym (newest-append number (has_key key k) xs ys));
  }
    where
      decide : (f : F) → Contains (merged key xs ys) f → (b : Bool) → stays key empty oldest elided f ≡ b
          → Contains (filter (stays key empty oldest elided) (merged key xs ys)) f
          ⊎ (IsTrue (elided (id_of (key f))) ⊎ (HasNewer key number (xs ++ ys) f ⊎ ((IsTrue oldest × IsTrue (empty f)) ⊎ LiesInOne within (filter (stays key empty oldest elided) (merged key xs ys)) f)))
      decide f d true e = inl (filtered (stays key empty oldest elided) (merged key xs ys) f d e)
      decide f d false e = elim (stays_not empty oldest elided f e) [ inl gone ↦ inr (inl gone) | inr none ↦ inr (inr (inr (inl none))) ]
