-- Two lists of facts woven by key say what both say, whatever numbers the facts have.
use Rattle.table_soundness.proofs.Prelude.{nat_tests, ◌≡◌, ℕ, ◌<◌, Bool, true, false, not, ◌&&◌, List, [], ◌∷◌, ◌++◌, get_or, refl, sym, ap, ap₂, subst, ◌∙◌, arith, filter, All, Contains, Option, Some, None, IfSome, nat_lt, if◌then◌else◌, option_and_then, ◌==◌, ltb-true, ltb-false, eqb-true, ◌+◌, ◌-◌, length, take, inl, inr, All-cons, All-head, All-tail, id_of, has_key, unless_empty, Ascends, facts_of, newest_of, stays, later, IsShown, filtered, of_filter, none_above, ascends-head, ascends-tail, ascends-cons, ascends-nil, ascends_filter, newest-append, newest-cons, newest_found, passes_filter, said_whole, whole_said, newer_one, weave, woven, AreNewest, cases_lt, get_or_append_left, get_or-append_right, length-append, IsBehind}
use Rattle.pyramid.proofs.PlaceLemmas.{facts_append}
use Rattle.pyramid.proofs.SpanLemmas.{facts_more, only_one}

module _ {F : Type 0} (key number : F → ℕ) where
  abbrev Above : ℕ → List F → Type 0
  Above n xs = All (λ f. n < key f) xs

  above_nil : (n : ℕ) → Above n []
  above_nil n k d less = absurd (omega (arith, less))

  above_more : (n m : ℕ) (xs : List F) → n < m → Above m xs → Above n xs
  above_more n m xs l h j d less = let a : m < key (get_or xs j d) = h j d less in omega (arith, a, l)

  above_weave : (n : ℕ) (x : F) (rest : List F → List F) → ((zs : List F) → Above n zs → Above n (rest zs)) → n < key x → (ys : List F) → Above n ys → Above n (weave key number x rest ys)
  above_weave n x rest r a [] h = All-cons (λ f. n < key f) x (rest []) a (r [] h)
  above_weave n x rest r a (y ∷ ys) h = one (above_weave n x rest r a ys (All-tail (λ f. n < key f) y ys h)) (nat_lt (key x) (key y)) (nat_lt (key y) (key x)) (nat_lt (number x) (number y))
    where
      b : n < key y
      b = All-head (λ f. n < key f) y ys h

      rest_above : Above n (rest ys)
      rest_above = r ys (All-tail (λ f. n < key f) y ys h)

      one : Above n (weave key number x rest ys) → (p q s : Bool) → Above n (if p then x ∷ rest (y ∷ ys) else if q then y ∷ weave key number x rest ys else (if s then y else x) ∷ rest ys)
      one inner true q s = All-cons (λ f. n < key f) x (rest (y ∷ ys)) a (r (y ∷ ys) h)
      one inner false true s = All-cons (λ f. n < key f) y (weave key number x rest ys) b inner
      one inner false false true = All-cons (λ f. n < key f) y (rest ys) b rest_above
      one inner false false false = All-cons (λ f. n < key f) x (rest ys) a rest_above

  above_woven : (n : ℕ) (xs ys : List F) → Above n xs → Above n ys → Above n (woven key number xs ys)
  above_woven n [] ys a b = b
  above_woven n (x ∷ xs) ys a b =
      above_weave n x (woven key number xs) (λ zs c. above_woven n xs zs (All-tail (λ f. n < key f) x xs a) c) (All-head (λ f. n < key f) x xs a) ys b

  ascends_weave : (x : F) (xs : List F) (rest : List F → List F) → ((zs : List F) → Ascends key zs → Ascends key (rest zs))
      → ((n : ℕ) (zs : List F) → Above n xs → Above n zs → Above n (rest zs)) → Ascends key (x ∷ xs) → (ys : List F) → Ascends key ys → Ascends key (weave key number x rest ys)
  ascends_weave x xs rest r above h [] k = ascends-cons key x (rest []) (above (key x) [] (ascends-head key x xs h) (above_nil (key x))) (r [] k)
  ascends_weave x xs rest r above h (y ∷ ys) k = one (ascends_weave x xs rest r above h ys (ascends-tail key y ys k)) (nat_lt (key x) (key y)) (nat_lt (key y) (key x)) (nat_lt (number x) (number y)) refl refl
    where
      one : Ascends key (weave key number x rest ys) → (p q s : Bool) → nat_lt (key x) (key y) ≡ p → nat_lt (key y) (key x) ≡ q
          → Ascends key (if p then x ∷ rest (y ∷ ys) else if q then y ∷ weave key number x rest ys else (if s then y else x) ∷ rest ys)
      one inner true q s a b =
          let xy : key x < key y = ltb-true _ _ a in
          ascends-cons key x (rest (y ∷ ys)) (above (key x) (y ∷ ys) (ascends-head key x xs h)
          (All-cons (λ f. key x < key f) y ys xy (above_more (key x) (key y) ys xy (ascends-head key y ys k)))) (r (y ∷ ys) k)
      one inner false true s a b =
          let yx : key y < key x = ltb-true _ _ b in
          ascends-cons key y (weave key number x rest ys)
          (above_weave (key y) x rest (λ zs c. above (key y) zs (above_more (key y) (key x) xs yx (ascends-head key x xs h)) c) yx ys (ascends-head key y ys k))
          inner
      one inner false false true a b =
          let same : key x ≡ key y = omega (arith, ltb-false _ _ a, ltb-false _ _ b) in
          let up : Above (key y) xs = subst (λ n. Above n xs) same (ascends-head key x xs h) in
          ascends-cons key y (rest ys) (above (key y) ys up (ascends-head key y ys k)) (r ys (ascends-tail key y ys k))
      one inner false false false a b =
          let same : key x ≡ key y = omega (arith, ltb-false _ _ a, ltb-false _ _ b) in
          let up : Above (key x) ys = subst (λ n. Above n ys) (sym same) (ascends-head key y ys k) in
          ascends-cons key x (rest ys) (above (key x) ys (ascends-head key x xs h) up) (r ys (ascends-tail key y ys k))

  ascends_woven : (xs ys : List F) → Ascends key xs → Ascends key ys → Ascends key (woven key number xs ys)
  ascends_woven [] ys a b = b
  ascends_woven (x ∷ xs) ys a b =
      ascends_weave x xs (woven key number xs) (λ zs c. ascends_woven xs zs (ascends-tail key x xs a) c) (λ n zs c d. above_woven n xs zs c d) a ys b

  -- of two facts of the key, and none behind them

  weave_newest : (k : ℕ) (x : F) (xs : List F) (rest : List F → List F)
      → ((zs : List F) → Ascends key zs → newest_of key number k (rest zs) ≡ later number (newest_of key number k xs) (newest_of key number k zs))
      → Ascends key (x ∷ xs) → (ys : List F) → Ascends key ys
      → newest_of key number k (weave key number x rest ys) ≡ later number (newest_of key number k (x ∷ xs)) (newest_of key number k ys)
  weave_newest k x xs rest r a [] b = rw (r [] (ascends-nil key)) (newest-cons number (has_key key k) x xs None)
  weave_newest k x xs rest r a (y ∷ ys) b =
      one (weave_newest k x xs rest r a ys (ascends-tail key y ys b)) (nat_lt (key x) (key y)) (nat_lt (key y) (key x)) refl refl
    where
      one : newest_of key number k (weave key number x rest ys) ≡ later number (newest_of key number k (x ∷ xs)) (newest_of key number k ys) → (p q : Bool) → nat_lt (key x) (key y) ≡ p → nat_lt (key y) (key x) ≡ q
          → newest_of key number k (if p then x ∷ rest (y ∷ ys) else if q then y ∷ weave key number x rest ys else newer_one number x y ∷ rest ys)
          ≡ later number (newest_of key number k (x ∷ xs)) (newest_of key number k (y ∷ ys))
      one inner true q e f = rw (r (y ∷ ys) b) (newest-cons number (has_key key k) x xs (newest_of key number k (y ∷ ys)))
      one inner false true e f = two (key y == k) refl
        where
          yx : key y < key x
          yx = ltb-true _ _ f

          two : (u : Bool) → (key y == k) ≡ u → newest_of key number k (y ∷ weave key number x rest ys) ≡ later number (newest_of key number k (x ∷ xs)) (newest_of key number k (y ∷ ys))
          two false g = rw (g, inner) refl
          two true g =
              let at : key y ≡ k = eqb-true _ _ g in
              let none : newest_of key number k (x ∷ xs) ≡ None = none_above key number k (x ∷ xs)
              (All-cons (λ h. k < key h) x xs (omega (arith, at, yx)) (λ j d l. let h : key x < key (get_or xs j d) = ascends-head key x xs a j d l in omega (arith, at, yx, h))) in
              rw none (rw g (rw inner (rw none refl)))
      one inner false false e f = two (key y == k) refl
        where
          same : key x ≡ key y
          same = omega (arith, ltb-false _ _ e, ltb-false _ _ f)

          under : newest_of key number k (rest ys) ≡ later number (newest_of key number k xs) (newest_of key number k ys)
          under = r ys (ascends-tail key y ys b)

          neither : (s : Bool) → (key x == k) ≡ false → (key y == k) ≡ false → newest_of key number k ((if s then y else x) ∷ rest ys) ≡ later number (newest_of key number k (x ∷ xs)) (newest_of key number k (y ∷ ys))
          neither true gx gy = simp (gx, gy, under)
          neither false gx gy = simp (gx, gy, under)

          both : (s : Bool) → nat_lt (number x) (number y) ≡ s → (key x == k) ≡ true → (key y == k) ≡ true → newest_of key number k xs ≡ None → newest_of key number k ys ≡ None
              → newest_of key number k ((if s then y else x) ∷ rest ys) ≡ later number (newest_of key number k (x ∷ xs)) (newest_of key number k (y ∷ ys))
          both true less gx gy none none2 = simp (gx, gy, under, none, none2, less)
          both false less gx gy none none2 = simp (gx, gy, under, none, none2, less)

          two : (u : Bool) → (key y == k) ≡ u → newest_of key number k (newer_one number x y ∷ rest ys) ≡ later number (newest_of key number k (x ∷ xs)) (newest_of key number k (y ∷ ys))
          two false g = let gx : (key x == k) ≡ false = ap (λ n. n == k) same ∙ g in neither (nat_lt (number x) (number y)) gx g
          two true g =
              let gx : (key x == k) ≡ true = ap (λ n. n == k) same ∙ g in
              let at : key y ≡ k = eqb-true _ _ g in
              let none : newest_of key number k xs ≡ None = none_above key number k xs (λ j d l. let h : key x < key (get_or xs j d) = ascends-head key x xs a j d l in omega (arith, at, same, h)) in
              let none2 : newest_of key number k ys ≡ None = none_above key number k ys (λ j d l. let h : key y < key (get_or ys j d) = ascends-head key y ys b j d l in omega (arith, at, h)) in
              both (nat_lt (number x) (number y)) refl gx g none none2

  woven_newest : (k : ℕ) (xs ys : List F) → Ascends key xs → Ascends key ys
      → newest_of key number k (woven key number xs ys) ≡ later number (newest_of key number k xs) (newest_of key number k ys)
  woven_newest k [] ys a b = refl
  woven_newest k (x ∷ xs) ys a b = weave_newest k x xs (woven key number xs) (λ zs d. woven_newest k xs zs (ascends-tail key x xs a) d) a ys b

  pub woven_nil : (xs : List F) → woven key number xs [] ≡ xs
  woven_nil [] = refl
  woven_nil (x ∷ xs) = ap (λ l. x ∷ l) (woven_nil xs)

  -- the only patch

  -- two parts of the patches
  pub newest_of_both : (ps front back : List (List F)) (xs ys : List F) → ps ≡ front ++ back → AreNewest key number (facts_of front) xs → AreNewest key number (facts_of back) ys
      → AreNewest key number (facts_of ps) (woven key number xs ys)
  newest_of_both ps front back xs ys whole a b = grind (arith, nat_tests, ascends_woven, facts_append, woven_newest, ap₂, later, newest-append)

module _ {F : Type 0} (key number : F → ℕ) (empty : F → Bool) where
  open_test : (b c : Bool) → (not b && not (true && c)) ≡ true → (b ≡ false) × (c ≡ false)
  open_test true c e = absurd cc
  open_test false true e = absurd cc
  open_test false false e = (refl, refl)

  close_test : (b c : Bool) → b ≡ false → c ≡ false → (not b && not (true && c)) ≡ true
  close_test true c e f = absurd cc
  close_test false true e f = absurd cc
  close_test false false e f = refl

  not_empty : (f : F) (b : Bool) → b ≡ false → (if b then None else Some f) ≡ Some f
  not_empty f true e = absurd cc
  not_empty f false e = refl

  pub found_one : (f : F) (o : Option F) → option_and_then (unless_empty empty) o ≡ Some f → (o ≡ Some f) × (empty f ≡ false)
  found_one f None e = absurd cc
  found_one f (Some g) e = one (empty g) refl e
    where
      one : (b : Bool) → empty g ≡ b → (if b then None else Some g) ≡ Some f → (Some g ≡ Some f) × (empty f ≡ false)
      one true x h = absurd cc
      one false x h = let same : g ≡ f = cc in (h, ap empty (sym same) ∙ x)

  abbrev keep : (ℕ → Bool) → F → Bool
  keep elided = stays key empty true elided

  -- the newest facts that aren't elided or empty are what is shown
  pub shown_newest : (facts found : List F) (elided : ℕ → Bool) → AreNewest key number facts found → IsShown key number empty facts elided (filter (stays key empty true elided) found)
  shown_newest facts found elided h = record {
    ascends = ascends_filter key (keep elided) found h.ascends;
    said = λ f c.
        let passes = open_test (elided (id_of (key f))) (empty f) (passes_filter (keep elided) found f c) in
        let is : newest_of key number (key f) facts ≡ Some f = sym (h.same (key f)) ∙ only_one key number found f h.ascends (of_filter (keep elided) found f c) in
        whole_said key number empty facts elided (key f) f passes.0 (ap (λ o. option_and_then (unless_empty empty) o) is ∙ not_empty f (empty f) passes.1);
    all = λ f l e.
        let w = said_whole key number empty facts elided (key f) f e in
        let one = found_one f (newest_of key number (key f) facts) w.1 in
        let is : newest_of key number (key f) found ≡ Some f = h.same (key f) ∙ one.0 in
        let there = subst (λ o. IfSome o (λ g. Contains found g × (has_key key (key f) g ≡ true))) is (newest_found number (has_key key (key f)) found) in
        filtered (keep elided) found f there.0 (close_test (elided (id_of (key f))) (empty f) w.0 one.1);
  }

-- ---- patches in a row

module _ {F : Type 0} (key number : F → ℕ) where
  -- what ascends, and behind its last key what ascends too
  ascends_join : (xs p q : List F) → Ascends key (xs ++ p) → Ascends key q → IsBehind key p q → Ascends key ((xs ++ p) ++ q)
  ascends_join xs p q front back behind i j d l within = elim (cases_lt j (length (xs ++ p))) [
    | inl left ↦ rw (get_or_append_left (xs ++ p) q d i (omega (arith, l, left)), get_or_append_left (xs ++ p) q d j left) (front i j d l left)
    | inr right ↦ elim (cases_lt i (length (xs ++ p))) [
      | inl left ↦ rw (get_or_append_left (xs ++ p) q d i left, get_or-append_right (xs ++ p) q (length (xs ++ p)) j d refl right) (across i left (j - length (xs ++ p)) (omega (arith, within, right, length-append (xs ++ p) q)))
      | inr high ↦
          rw (get_or-append_right (xs ++ p) q (length (xs ++ p)) i d refl high, get_or-append_right (xs ++ p) q (length (xs ++ p)) j d refl right)
          (back (i - length (xs ++ p)) (j - length (xs ++ p)) d (omega (arith, l, high, right)) (omega (arith, within, right, length-append (xs ++ p) q)))
    ]
  ]
    where
      whole : length (xs ++ p) ≡ length xs + length p
      whole = length-append xs p

      -- the last one of the front
      end : (e : F) → get_or (xs ++ p) (length (xs ++ p) - 1) e ≡ get_or p (length p - 1) e
      end e =
          let some = behind.some in
          get_or-append_right xs p (length xs) (length (xs ++ p) - 1) e refl (omega (arith, whole, some)) ∙ ap (λ n. get_or p n e) (omega (arith, whole, some))

      first : (k : ℕ) (d : F) → k < length q → key (get_or p (length p - 1) d) < key (get_or q k d)
      first k d m = elim (cases_lt 0 k) [
        | inl up ↦
            let low = behind.below (length p - 1) 0 d d (omega (arith, behind.some)) refl in
            let more = back 0 k d up m in
            omega (arith, low, more)
        | inr least ↦ behind.below (length p - 1) k d d (omega (arith, behind.some)) (omega (arith, least))
      ]

      across : (k : ℕ) → k < length (xs ++ p) → (m : ℕ) → m < length q → key (get_or (xs ++ p) k d) < key (get_or q m d)
      across k left m within = elim (cases_lt k (length (xs ++ p) - 1)) [
        | inl low ↦
            let up = front k (length (xs ++ p) - 1) d low (omega (arith, left)) in
            let last : key (get_or (xs ++ p) (length (xs ++ p) - 1) d) ≡ key (get_or p (length p - 1) d) = ap key (end d) in
            let over = first m d within in
            omega (arith, up, last, over)
        | inr high ↦
            let is : k ≡ length (xs ++ p) - 1 = omega (arith, left, high) in
            rw (is, end d) (first m d within)
      ]

  -- the first patch of a row
  pub row_one : (ps : List (List F)) (p : List F) → 0 < length ps → p ≡ get_or ps 0 p → Ascends key p → Ascends key (facts_of (take 1 ps))
  row_one ps p some at_p h = rw (facts_more key number ps 0 p some at_p) h

  -- a patch more in the row
  pub row_more : (ps : List (List F)) (i : ℕ) (p q : List F) → 0 < i → i < length ps → p ≡ get_or ps (i - 1) p → q ≡ get_or ps i q → Ascends key q → IsBehind key p q
      → Ascends key (facts_of (take i ps)) → Ascends key (facts_of (take (i + 1) ps))
  row_more ps i p q some within at_p at_q back behind front =
      let before : facts_of (take i ps) ≡ facts_of (take (i - 1) ps) ++ p =
      ap (λ n. facts_of (take n ps)) (omega (arith, some)) ∙ facts_more key number ps (i - 1) p (omega (arith, some, within)) at_p in
      rw (facts_more key number ps i q within at_q, before) (ascends_join (facts_of (take (i - 1) ps)) p q (rw (← before) front) back behind)

  -- what ascends is the newest of itself
  pub newest_alone : (fs : List F) → Ascends key fs → AreNewest key number fs fs
  newest_alone fs h = record { ascends = h; same = λ k. refl }
