-- The facts of the keys between two.
use Rattle.pyramid.proofs.Prelude.{nat_tests, ◌≡◌, ◌↔◌, ℕ, zero, suc, ◌+◌, ◌-◌, ◌<◌, ◌≤◌, Bool, true, false, List, [], ◌∷◌, ◌++◌, length, get_or, take, drop, refl, sym, ap, ◌∙◌, arith, inl, inr, Contains, cond, Option, Some, None, Result, Ok, Err, IfOk, IfSome, filter, nat_le, if◌then◌else◌, ◌==◌, option_and_then, leb-true, le-leb, eqb-true, eq-eqb, append-nil, cases_order, take_more, get_or_default, AllPairs-filter, Contains-append_left, Contains-append_right, Contains-append_cases, id_of, Ascends, has_key, says, unless_empty, is_within, facts_of, newest_of, is_between, if_passes, AreBelow, Rises, IsBefore, IsOrdered, lasts, merged, stays, later, IsSpan, of_filter, newest-append, newest_found, newest_is, ascends_merged, ascends_filter, merged_newest, filter_newest, below_at, all_below}
use Rattle.pyramid.proofs.FlushLemmas.{ascends_lasts, newest_lasts}
use Rattle.pyramid.proofs.ReasonLemmas.{of_merged, of_lasts}
use Rattle.pyramid.proofs.PlaceLemmas.{facts_append}

module _ {X : Type 0} (p : X → Bool) where
  filter_none : (xs : List X) → ((i : ℕ) (d : X) → i < length xs → p (get_or xs i d) ≡ false) → filter p xs ≡ []
  filter_none [] h = refl
  filter_none (x ∷ xs) h = let first : p x ≡ false = h 0 x (omega arith) in rw first (filter_none xs (λ i d l. h (suc i) d (omega (arith, l))))

  -- where what passes stands together, it is a slice
  pub spanned : (xs : List X) (s e : ℕ) → s ≤ e → e ≤ length xs → ((i : ℕ) (d : X) → i < s → p (get_or xs i d) ≡ false) → ((i : ℕ) (d : X) → s ≤ i → i < e → p (get_or xs i d) ≡ true)
      → ((i : ℕ) (d : X) → e ≤ i → i < length xs → p (get_or xs i d) ≡ false) → take (e - s) (drop s xs) ≡ filter p xs
  spanned [] s e le fits low mid high = let z : e ≡ 0 = omega (arith, fits) in let z2 : s ≡ 0 = omega (arith, fits, le) in rw (z, z2) refl
  spanned (x ∷ xs) zero zero le fits low mid high = sym (filter_none (x ∷ xs) (λ i d l. high i d (omega arith) l))
  spanned (x ∷ xs) zero (suc e) le fits low mid high =
      let first : p x ≡ true = mid 0 x (omega arith) (omega arith) in
      let step : suc e - 0 ≡ suc (e - 0) = omega arith in
      rw (step, first) (ap (λ l. x ∷ l) (spanned xs 0 e (omega arith) (omega (arith, fits)) (λ i d l. absurd (omega (arith, l))) (λ i d m l. mid (suc i) d (omega arith) (omega (arith, l)))
      (λ i d m l. high (suc i) d (omega (arith, m)) (omega (arith, l)))))
  spanned (x ∷ xs) (suc s) zero le fits low mid high = absurd (omega (arith, le))
  spanned (x ∷ xs) (suc s) (suc e) le fits low mid high =
      let first : p x ≡ false = low 0 x (omega arith) in
      let step : suc e - suc s ≡ e - s = omega arith in
      rw (step, first) (spanned xs s e (omega (arith, le)) (omega (arith, fits)) (λ i d l. low (suc i) d (omega (arith, l))) (λ i d m l. mid (suc i) d (omega (arith, m)) (omega (arith, l)))
      (λ i d m l. high (suc i) d (omega (arith, m)) (omega (arith, l))))

pub between : (from to k : ℕ) → from ≤ k → k ≤ to → is_between from to k ≡ true
between from to k a b = rw (le-leb from k a, le-leb k to b) refl

pub not_from : (from to k : ℕ) → k < from → is_between from to k ≡ false
not_from from to k l = grind (arith, nat_tests, nat_le, leb-true)

pub not_to : (from to k : ℕ) → to < k → is_between from to k ≡ false
not_to from to k l = grind (arith, nat_tests, nat_le, leb-true)

pub bounds : (from to k : ℕ) → is_between from to k ≡ true → (from ≤ k) × (k ≤ to)
bounds from to k e = grind (arith, nat_tests, nat_le, leb-true)

-- no elided ranges and not the oldest patch: all facts stay
pub all_stay : {F : Type 0} (key : F → ℕ) (empty : F → Bool) (xs : List F) → filter (stays key empty false (is_within [])) xs ≡ xs
all_stay key empty [] = refl
all_stay key empty (x ∷ xs) = ap (λ l. x ∷ l) (all_stay key empty xs)

module _ {F : Type 0} (key number : F → ℕ) (from to : ℕ) where
  -- the newest fact of a key between the two
  pub span_newest : (k : ℕ) (fs : List F) → newest_of key number k (filter (λ f. is_between from to (key f)) fs) ≡ (if is_between from to k then newest_of key number k fs else None)
  span_newest k [] = nothing None (is_between from to k)
    where
      nothing : (o : Option F) (b : Bool) → o ≡ (if b then o else o)
      nothing o true = refl
      nothing o false = refl
  span_newest k (x ∷ xs) = one (is_between from to k) (is_between from to (key x)) (key x == k) refl refl refl (span_newest k xs)
    where
      one : (s b c : Bool) → is_between from to k ≡ s → is_between from to (key x) ≡ b → (key x == k) ≡ c
          → newest_of key number k (filter (λ f. is_between from to (key f)) xs) ≡ (if is_between from to k then newest_of key number k xs else None)
          → newest_of key number k (cond b (x ∷ filter (λ f. is_between from to (key f)) xs) (filter (λ f. is_between from to (key f)) xs)) ≡ (if s then newest_of key number k (x ∷ xs) else None)
      one true true true p q r inner = rw (r, inner, p) refl
      one true true false p q r inner = rw (r, inner, p) refl
      one true false true p q r inner = absurd (apart (sym p ∙ ap (is_between from to) (sym (eqb-true (key x) k r)) ∙ q))
        where
          apart : true ≡ false → ⊥
          apart e = cc
      one true false false p q r inner = rw (r, inner, p) refl
      one false true true p q r inner = absurd (apart (sym q ∙ ap (is_between from to) (eqb-true (key x) k r) ∙ p))
        where
          apart : true ≡ false → ⊥
          apart e = cc
      one false true false p q r inner = rw (r, inner, p) refl
      one false false c p q r inner = rw (inner, p) refl

  -- with one more patch
  pub span_more : (facts found patch : List F) → IsSpan key number from to facts found → Ascends key patch → AreBelow number facts patch
      → IsSpan key number from to (facts ++ patch) (merged key found (filter (λ f. is_between from to (key f)) patch))
  span_more facts found patch h up below = record {
    ascends = ascends_merged key found (filter (λ f. is_between from to (key f)) patch) h.ascends (ascends_filter key (λ f. is_between from to (key f)) patch up);
    source = λ f c. elim (of_merged key found (filter (λ f. is_between from to (key f)) patch) f c) [
      | inl a ↦ Contains-append_left facts patch f (h.source f a)
      | inr b ↦ Contains-append_right facts patch f (of_filter (λ f. is_between from to (key f)) patch f b)
    ];
    newest = λ k. merged_newest key number k found (filter (λ f. is_between from to (key f)) patch) h.ascends (ascends_filter key (λ f. is_between from to (key f)) patch up)
        (all_below number found (filter (λ f. is_between from to (key f)) patch) (λ f g c d. below_at number facts patch f g below (h.source f c) (of_filter (λ f. is_between from to (key f)) patch g d)))
        ∙ rw (h.newest k, span_newest k patch) (both k (is_between from to k));
  }
    where
      both : (k : ℕ) (s : Bool) → later number (if s then newest_of key number k facts else None) (if s then newest_of key number k patch else None) ≡ (if s then newest_of key number k (facts ++ patch) else None)
      both k true = sym (newest-append number (has_key key k) facts patch)
      both k false = refl

module _ {F : Type 0} (key number : F → ℕ) where
  -- a fact of a patch is one of all
  pub patch_there : (ps : List (List F)) (i : ℕ) (p : List F) (f : F) → i < length ps → p ≡ get_or ps i p → Contains p f → Contains (facts_of ps) f
  patch_there [] i p f l is c = absurd (omega (arith, l))
  patch_there (q ∷ ps) zero p f l is c = Contains-append_left q (facts_of ps) f (rw (← is) c)
  patch_there (q ∷ ps) (suc i) p f l is c = Contains-append_right q (facts_of ps) f (patch_there ps i p f (omega (arith, l)) is c)

  -- the older patches are below the next one
  pub below_next : (ps : List (List F)) (us : List F) (i : ℕ) (p : List F) → Rises number ps us → i < length ps → p ≡ get_or ps i p → AreBelow number (facts_of (take i ps)) p
  below_next [] us i p h l is = absurd (omega (arith, l))
  below_next (q ∷ ps) us zero p h l is = λ k d m. absurd (omega (arith, m))
  below_next (q ∷ ps) us (suc i) p h l is = one (below_next ps us i p h.1 (omega (arith, l)) is)
    where
      one : AreBelow number (facts_of (take i ps)) p → AreBelow number (q ++ facts_of (take i ps)) p
      one inner = all_below number (q ++ facts_of (take i ps)) p (λ f g c d. elim (Contains-append_cases q (facts_of (take i ps)) f c) [
        | inl a ↦ below_at number q (facts_of ps ++ us) f g h.0 a (Contains-append_left (facts_of ps) us g (patch_there ps i p g (omega (arith, l)) is d))
        | inr b ↦ below_at number (facts_of (take i ps)) p f g inner b d
      ])

  pub facts_more : (ps : List (List F)) (i : ℕ) (p : List F) → i < length ps → p ≡ get_or ps i p → facts_of (take (i + 1) ps) ≡ facts_of (take i ps) ++ p
  facts_more ps i p l is = ap facts_of (take_more ps i p l ∙ ap (λ q. take i ps ++ q ∷ []) (sym is)) ∙ facts_append (take i ps) (p ∷ []) ∙ ap (λ fs. facts_of (take i ps) ++ fs) (append-nil p)

  -- a fact of a patch is the newest of its key there
  pub only_one : (fs : List F) (f : F) → Ascends key fs → Contains fs f → newest_of key number (key f) fs ≡ Some f
  only_one fs f up c =
      let at : get_or fs c.0 f ≡ f = c.2 in
      newest_is number (has_key key (key f)) fs c.0 f c.1 (eq-eqb (key (get_or fs c.0 f)) (key f) (ap key at)) others ∙ ap (λ g. Some g) at
    where
      others : (j : ℕ) (e : F) → j < length fs → (j ≡ c.0 → ⊥) → (key (get_or fs j e) == key f) ≡ true → number (get_or fs j e) < number (get_or fs c.0 f)
      others j e l ne p =
          let same : key (get_or fs j e) ≡ key f = eqb-true _ _ p in
          let at : get_or fs c.0 e ≡ f = get_or_default fs c.0 e f c.1 ∙ c.2 in
          let here : key (get_or fs c.0 e) ≡ key f = ap key at in
          let fits : c.0 < length fs = c.1 in
          elim (cases_order j c.0) [
            | inl s ↦ absurd (ne s)
            | inr h ↦ elim h [
              | inl b ↦ (let less : key (get_or fs j e) < key (get_or fs c.0 e) = up j c.0 e b fits in absurd (omega (arith, less, same, here)))
              | inr b ↦ (let less : key (get_or fs c.0 e) < key (get_or fs j e) = up c.0 j e b l in absurd (omega (arith, less, same, here)))
            ]
          ]

module _ {F : Type 0} (key number : F → ℕ) (empty : F → Bool) where
  -- what a merge into the oldest patch keeps is what is said
  kept_says : (elided : ℕ → Bool) (k : ℕ) (fs : List F) → option_and_then (if_passes (stays key empty true elided)) (newest_of key number k fs) ≡ says key number empty fs elided k
  kept_says elided k fs = one (newest_of key number k fs) (newest_found number (has_key key k) fs)
    where
      two : (f : F) (w e : Bool) → elided (id_of k) ≡ w → empty f ≡ e → key f ≡ k → if_passes (stays key empty true elided) f ≡ (if w then None else unless_empty empty f)
      two f true e p q at = rw at (rw p refl)
      two f false true p q at = rw at (rw (p, q) refl)
      two f false false p q at = rw at (rw (p, q) refl)

      three : (o : Option F) (w : Bool) → o ≡ (if w then o else o)
      three o true = refl
      three o false = refl

      one : (o : Option F) → IfSome o (λ f. Contains fs f × (has_key key k f ≡ true)) → option_and_then (if_passes (stays key empty true elided)) o ≡ (if elided (id_of k) then None else option_and_then (unless_empty empty) o)
      one None h = three None (elided (id_of k))
      one (Some f) h = two f (elided (id_of k)) (empty f) refl refl (eqb-true (key f) k h.1)

  -- the facts of the patches and the unflushed ones as one, without what isn't said
  pub ranged : (from to : ℕ) (elided : ℕ → Bool) (fs us found : List F) → IsSpan key number from to fs found → IsOrdered key number us → AreBelow number fs us
      → Ascends key (filter (stays key empty true elided) (merged key found (lasts key (filter (λ f. is_between from to (key f)) us))))
      × ((f : F) → Contains (filter (stays key empty true elided) (merged key found (lasts key (filter (λ f. is_between from to (key f)) us)))) f
      ↔ ((from ≤ key f) × (key f ≤ to) × (says key number empty (fs ++ us) elided (key f) ≡ Some f)))
  ranged from to elided fs us found h ordered below = (up, (λ f. (forth f, back f)))
    where
      in_order : IsOrdered key number (filter (λ f. is_between from to (key f)) us)
      in_order = AllPairs-filter (IsBefore key number) (λ f. is_between from to (key f)) us ordered

      whole : Ascends key (merged key found (lasts key (filter (λ f. is_between from to (key f)) us)))
      whole = ascends_merged key found (lasts key (filter (λ f. is_between from to (key f)) us)) h.ascends (ascends_lasts key number (filter (λ f. is_between from to (key f)) us) in_order)

      up : Ascends key (filter (stays key empty true elided) (merged key found (lasts key (filter (λ f. is_between from to (key f)) us))))
      up = ascends_filter key (stays key empty true elided) (merged key found (lasts key (filter (λ f. is_between from to (key f)) us))) whole

      under : AreBelow number found (lasts key (filter (λ f. is_between from to (key f)) us))
      under = all_below number found (lasts key (filter (λ f. is_between from to (key f)) us)) (λ f g c d. below_at number fs us f g below (h.source f c) (of_filter (λ f. is_between from to (key f)) us g (of_lasts key (filter (λ f. is_between from to (key f)) us) g d)))

      both : (k : ℕ) (s : Bool) → later number (if s then newest_of key number k fs else None) (if s then newest_of key number k us else None) ≡ (if s then newest_of key number k (fs ++ us) else None)
      both k true = sym (newest-append number (has_key key k) fs us)
      both k false = refl

      newest_out : (k : ℕ) → newest_of key number k (filter (stays key empty true elided) (merged key found (lasts key (filter (λ f. is_between from to (key f)) us))))
          ≡ option_and_then (if_passes (stays key empty true elided)) (if is_between from to k then newest_of key number k (fs ++ us) else None)
      newest_out k = filter_newest key number k (stays key empty true elided) (merged key found (lasts key (filter (λ f. is_between from to (key f)) us))) whole
          ∙ ap (λ o. option_and_then (if_passes (stays key empty true elided)) o)
          (merged_newest key number k found (lasts key (filter (λ f. is_between from to (key f)) us)) h.ascends (ascends_lasts key number (filter (λ f. is_between from to (key f)) us) in_order) under
          ∙ rw (h.newest k, newest_lasts key number k (filter (λ f. is_between from to (key f)) us) in_order, span_newest key number from to k us) (both k (is_between from to k)))

      forth : (f : F) → Contains (filter (stays key empty true elided) (merged key found (lasts key (filter (λ f. is_between from to (key f)) us)))) f
          → (from ≤ key f) × (key f ≤ to) × (says key number empty (fs ++ us) elided (key f) ≡ Some f)
      forth f c = one (is_between from to (key f)) refl (sym (newest_out (key f)) ∙ only_one key number (filter (stays key empty true elided) (merged key found (lasts key (filter (λ f. is_between from to (key f)) us)))) f up c)
        where
          one : (s : Bool) → is_between from to (key f) ≡ s → option_and_then (if_passes (stays key empty true elided)) (if is_between from to (key f) then newest_of key number (key f) (fs ++ us) else None) ≡ Some f
              → (from ≤ key f) × (key f ≤ to) × (says key number empty (fs ++ us) elided (key f) ≡ Some f)
          one true p e = ((bounds from to (key f) p).0, (bounds from to (key f) p).1, sym (kept_says elided (key f) (fs ++ us)) ∙ (rw p at e))
          one false p e = absurd (never (rw p at e))
            where
              never : None ≡ Some f → ⊥
              never e = cc

      back : (f : F) → (from ≤ key f) × (key f ≤ to) × (says key number empty (fs ++ us) elided (key f) ≡ Some f)
          → Contains (filter (stays key empty true elided) (merged key found (lasts key (filter (λ f. is_between from to (key f)) us)))) f
      back f c = one (newest_of key number (key f) (filter (stays key empty true elided) (merged key found (lasts key (filter (λ f. is_between from to (key f)) us))))) (newest_found number (has_key key (key f)) (filter (stays key empty true elided) (merged key found (lasts key (filter (λ f. is_between from to (key f)) us))))) is
        where
          is : newest_of key number (key f) (filter (stays key empty true elided) (merged key found (lasts key (filter (λ f. is_between from to (key f)) us)))) ≡ Some f
          is = newest_out (key f) ∙ rw (between from to (key f) c.0 c.1) (kept_says elided (key f) (fs ++ us) ∙ c.2)

          one : (o : Option F) → IfSome o (λ g. Contains (filter (stays key empty true elided) (merged key found (lasts key (filter (λ f. is_between from to (key f)) us)))) g × (has_key key (key f) g ≡ true)) → o ≡ Some f → Contains (filter (stays key empty true elided) (merged key found (lasts key (filter (λ f. is_between from to (key f)) us)))) f
          one None h e = cc
          one (Some g) h e = let same : g ≡ f = cc in rw same at h.0

pub no_elements : {X : Type 0} (xs : List X) → (length xs == 0) ≡ true → xs ≡ []
no_elements [] e = refl
no_elements (x ∷ xs) e = let z : suc (length xs) ≡ 0 = eqb-true _ _ e in absurd (omega (arith, z))

-- what follows from what an Ok says
pub for_ok : {T E : Type 0} (r : Result T E) (P Q : T → Type 0) → IfOk r P → ((x : T) → P x → Q x) → IfOk r Q
for_ok (Ok x) P Q h f = f x h
for_ok (Err e) P Q h f = tt
