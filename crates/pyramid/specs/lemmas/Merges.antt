-- Two patches as one.
use Rattle.std.proofs.Common.{◌≡◌, ℕ, zero, suc, ◌<◌, Bool, true, false, List, [], ◌∷◌, get_or, refl, sym, arith, cond, All}
use Rattle.std.specs.Prelude.{None, nat_lt, if◌then◌else◌, option_and_then, filter, ◌==◌}
use Rattle.std.proofs.lemmas.Bool.{ltb-true, ltb-false, lt-ltb, eqb-true, ne_eqb}
use Rattle.std.proofs.lemmas.List.Elements.{All-cons, All-head, All-tail, All-filter}
use Rattle.pur_base.specs.Prelude.{has_key, Ascends}
use Rattle.pyramid.specs.Layers.{newest_of, AreBelow, if_passes}
use Rattle.pyramid.specs.Merging.{later}
use Rattle.elision.specs.Merging.{weave, merged}
use Rattle.pyramid.specs.lemmas.Newest.{newest-cons, newest_none}

module _ {F : Type 0} (key number : F → ℕ) where
  pub none_above : (k : ℕ) (xs : List F) → All (λ f. k < key f) xs → newest_of key number k xs ≡ None
  none_above k xs h = newest_none number (has_key key k) xs (λ j d less. ne_eqb (key (get_or xs j d)) k (λ e. let a : k < key (get_or xs j d) = h j d less in omega (arith, a, e)))

module _ {F : Type 0} (key : F → ℕ) where
  pub ascends-head : (x : F) (xs : List F) → Ascends key (x ∷ xs) → All (λ f. key x < key f) xs
  ascends-head x xs h j d less = h 0 (suc j) d (omega arith) (omega (arith, less))

  pub ascends-tail : (x : F) (xs : List F) → Ascends key (x ∷ xs) → Ascends key xs
  ascends-tail x xs h i j d l m = h (suc i) (suc j) d (omega (arith, l)) (omega (arith, m))

  pub ascends-cons : (x : F) (xs : List F) → All (λ f. key x < key f) xs → Ascends key xs → Ascends key (x ∷ xs)
  ascends-cons x xs a h i zero d l m = absurd (omega (arith, l))
  ascends-cons x xs a h zero (suc j) d l m = a j d (omega (arith, m))
  ascends-cons x xs a h (suc i) (suc j) d l m = h i j d (omega (arith, l)) (omega (arith, m))

  pub ascends-nil : Ascends key []
  ascends-nil i j d l m = absurd (omega (arith, m))

  above_nil : (n : ℕ) → All (λ f. n < key f) []
  above_nil n k d less = absurd (omega (arith, less))

  abbrev Above : ℕ → List F → Type 0
  Above n xs = All (λ f. n < key f) xs

  above_more : (n m : ℕ) (xs : List F) → n < m → Above m xs → Above n xs
  above_more n m xs l h j d less = let a : m < key (get_or xs j d) = h j d less in omega (arith, a, l)

  above_weave : (n : ℕ) (x : F) (rest : List F → List F) → ((zs : List F) → Above n zs → Above n (rest zs)) → n < key x → (ys : List F) → Above n ys → Above n (weave key x rest ys)
  above_weave n x rest r a [] h = All-cons (λ f. n < key f) x (rest []) a (r [] h)
  above_weave n x rest r a (y ∷ ys) h = one (above_weave n x rest r a ys (All-tail (λ f. n < key f) y ys h)) (nat_lt (key x) (key y)) (nat_lt (key y) (key x))
    where
      one : Above n (weave key x rest ys) → (p q : Bool) → Above n (if p then x ∷ rest (y ∷ ys) else if q then y ∷ weave key x rest ys else y ∷ rest ys)
      one inner true q = All-cons (λ f. n < key f) x (rest (y ∷ ys)) a (r (y ∷ ys) h)
      one inner false true = All-cons (λ f. n < key f) y (weave key x rest ys) (All-head (λ f. n < key f) y ys h) inner
      one inner false false = All-cons (λ f. n < key f) y (rest ys) (All-head (λ f. n < key f) y ys h) (r ys (All-tail (λ f. n < key f) y ys h))

  above_merged : (n : ℕ) (xs ys : List F) → Above n xs → Above n ys → Above n (merged key xs ys)
  above_merged n [] ys a b = b
  above_merged n (x ∷ xs) ys a b =
      above_weave n x (merged key xs) (λ zs c. above_merged n xs zs (All-tail (λ f. n < key f) x xs a) c) (All-head (λ f. n < key f) x xs a) ys b

  ascends_weave : (x : F) (xs : List F) (rest : List F → List F) → ((zs : List F) → Ascends key zs → Ascends key (rest zs))
      → ((n : ℕ) (zs : List F) → Above n xs → Above n zs → Above n (rest zs)) → Ascends key (x ∷ xs) → (ys : List F) → Ascends key ys → Ascends key (weave key x rest ys)
  ascends_weave x xs rest r above h [] k = ascends-cons x (rest []) (above (key x) [] (ascends-head x xs h) (above_nil (key x))) (r [] k)
  ascends_weave x xs rest r above h (y ∷ ys) k = one (ascends_weave x xs rest r above h ys (ascends-tail y ys k)) (nat_lt (key x) (key y)) (nat_lt (key y) (key x)) refl refl
    where
      one : Ascends key (weave key x rest ys) → (p q : Bool) → nat_lt (key x) (key y) ≡ p → nat_lt (key y) (key x) ≡ q → Ascends key (if p then x ∷ rest (y ∷ ys) else if q then y ∷ weave key x rest ys else y ∷ rest ys)
      one inner true q a b =
          let xy : key x < key y = ltb-true _ _ a in
          ascends-cons x (rest (y ∷ ys)) (above (key x) (y ∷ ys) (ascends-head x xs h)
          (All-cons (λ f. key x < key f) y ys xy (above_more (key x) (key y) ys xy (ascends-head y ys k)))) (r (y ∷ ys) k)
      one inner false true a b =
          let yx : key y < key x = ltb-true _ _ b in
          ascends-cons y (weave key x rest ys)
          (above_weave (key y) x rest (λ zs c. above (key y) zs (above_more (key y) (key x) xs yx (ascends-head x xs h)) c) yx ys (ascends-head y ys k))
          inner
      one inner false false a b =
          let same : key x ≡ key y = omega (arith, ltb-false _ _ a, ltb-false _ _ b) in
          let up : Above (key y) xs = rw (sym same) (ascends-head x xs h) in
          ascends-cons y (rest ys) (above (key y) ys up (ascends-head y ys k)) (r ys (ascends-tail y ys k))

  pub ascends_merged : (xs ys : List F) → Ascends key xs → Ascends key ys → Ascends key (merged key xs ys)
  ascends_merged [] ys a b = b
  ascends_merged (x ∷ xs) ys a b =
      ascends_weave x xs (merged key xs) (λ zs c. ascends_merged xs zs (ascends-tail x xs a) c) (λ n zs c d. above_merged n xs zs c d) a ys b

  pub ascends_filter : (p : F → Bool) (xs : List F) → Ascends key xs → Ascends key (filter p xs)
  ascends_filter p [] h = h
  ascends_filter p (x ∷ xs) h = one (ascends_filter p xs (ascends-tail x xs h)) (p x)
    where
      one : Ascends key (filter p xs) → (b : Bool) → Ascends key (cond b (x ∷ filter p xs) (filter p xs))
      one inner true = ascends-cons x (filter p xs) (All-filter p (λ f. key x < key f) xs (ascends-head x xs h)) inner
      one inner false = inner

module _ {F : Type 0} (key number : F → ℕ) where
  below-tail : (x : F) (xs ys : List F) → AreBelow number (x ∷ xs) ys → AreBelow number xs ys
  below-tail x xs ys h i d l = h (suc i) d (omega (arith, l))

  below-tail_right : (xs : List F) (y : F) (ys : List F) → AreBelow number xs (y ∷ ys) → AreBelow number xs ys
  below-tail_right xs y ys h i d l j e m = h i d l (suc j) e (omega (arith, m))

  weave_newest : (k : ℕ) (x : F) (xs : List F) (rest : List F → List F)
      → ((zs : List F) → Ascends key zs → AreBelow number xs zs → newest_of key number k (rest zs) ≡ later number (newest_of key number k xs) (newest_of key number k zs))
      → Ascends key (x ∷ xs) → (ys : List F) → Ascends key ys → AreBelow number (x ∷ xs) ys
      → newest_of key number k (weave key x rest ys) ≡ later number (newest_of key number k (x ∷ xs)) (newest_of key number k ys)
  weave_newest k x xs rest r a [] b c =
      rw (r [] (ascends-nil key) (λ i d l j e m. absurd (omega (arith, m)))) (newest-cons number (has_key key k) x xs None)
  weave_newest k x xs rest r a (y ∷ ys) b c =
      one (weave_newest k x xs rest r a ys (ascends-tail key y ys b) (below-tail_right (x ∷ xs) y ys c)) (nat_lt (key x) (key y)) (nat_lt (key y) (key x)) refl refl
    where
      one : newest_of key number k (weave key x rest ys) ≡ later number (newest_of key number k (x ∷ xs)) (newest_of key number k ys) → (p q : Bool) → nat_lt (key x) (key y) ≡ p → nat_lt (key y) (key x) ≡ q
          → newest_of key number k (if p then x ∷ rest (y ∷ ys) else if q then y ∷ weave key x rest ys else y ∷ rest ys)
          ≡ later number (newest_of key number k (x ∷ xs)) (newest_of key number k (y ∷ ys))
      one inner true q e f = rw (r (y ∷ ys) b (below-tail x xs (y ∷ ys) c)) (newest-cons number (has_key key k) x xs (newest_of key number k (y ∷ ys)))
      one inner false true e f = two (key y == k) refl
        where
          yx : key y < key x
          yx = ltb-true _ _ f

          two : (u : Bool) → (key y == k) ≡ u → newest_of key number k (y ∷ weave key x rest ys) ≡ later number (newest_of key number k (x ∷ xs)) (newest_of key number k (y ∷ ys))
          two false g = rw (g, inner) refl
          two true g =
              let at : key y ≡ k = eqb-true _ _ g in
              let none : newest_of key number k (x ∷ xs) ≡ None = none_above key number k (x ∷ xs)
              (All-cons (λ h. k < key h) x xs (omega (arith, at, yx)) (λ j d l. let h : key x < key (get_or xs j d) = ascends-head key x xs a j d l in omega (arith, at, yx, h))) in
              rw none (rw g (rw inner (rw none refl)))
      one inner false false e f = two (key y == k) refl
        where
          same : key x ≡ key y
          same = omega (arith, ltb-false _ _ e, ltb-false _ _ f)

          two : (u : Bool) → (key y == k) ≡ u → newest_of key number k (y ∷ rest ys) ≡ later number (newest_of key number k (x ∷ xs)) (newest_of key number k (y ∷ ys))
          two false g =
              let g2 : (key x == k) ≡ false = rw same g in
              rw (g, g2, r ys (ascends-tail key y ys b) (below-tail x xs ys (below-tail_right (x ∷ xs) y ys c))) refl
          two true g =
              let g2 : (key x == k) ≡ true = rw same g in
              let at : key y ≡ k = eqb-true _ _ g in
              let none : newest_of key number k xs ≡ None = none_above key number k xs (λ j d l. let h : key x < key (get_or xs j d) = ascends-head key x xs a j d l in omega (arith, at, same, h)) in
              let none2 : newest_of key number k ys ≡ None = none_above key number k ys (λ j d l. let h : key y < key (get_or ys j d) = ascends-head key y ys b j d l in omega (arith, at, h)) in
              let below : number x < number y = c 0 x (omega arith) 0 y (omega arith) in
              let under = r ys (ascends-tail key y ys b) (below-tail x xs ys (below-tail_right (x ∷ xs) y ys c)) in
              rw (g, g2, under, none, none2) (rw (lt-ltb (number x) (number y) below) refl)

  pub merged_newest : (k : ℕ) (xs ys : List F) → Ascends key xs → Ascends key ys → AreBelow number xs ys
      → newest_of key number k (merged key xs ys) ≡ later number (newest_of key number k xs) (newest_of key number k ys)
  merged_newest k [] ys a b c = refl
  merged_newest k (x ∷ xs) ys a b c =
      weave_newest k x xs (merged key xs) (λ zs d e. merged_newest k xs zs (ascends-tail key x xs a) d e) a ys b c

  pub filter_newest : (k : ℕ) (p : F → Bool) (xs : List F) → Ascends key xs → newest_of key number k (filter p xs) ≡ option_and_then (if_passes p) (newest_of key number k xs)
  filter_newest k p [] h = refl
  filter_newest k p (x ∷ xs) h = one (filter_newest k p xs (ascends-tail key x xs h)) (p x) (key x == k) refl refl
    where
      one : newest_of key number k (filter p xs) ≡ option_and_then (if_passes p) (newest_of key number k xs) → (b u : Bool) → p x ≡ b → (key x == k) ≡ u → newest_of key number k (cond b (x ∷ filter p xs) (filter p xs)) ≡ option_and_then (if_passes p) (newest_of key number k (x ∷ xs))
      one inner true false e g = rw (g, inner) refl
      one inner false false e g = rw (g, inner) refl
      one inner b true e g = three b e
        where
          at : key x ≡ k
          at = eqb-true _ _ g

          none : newest_of key number k xs ≡ None
          none = none_above key number k xs (λ j d l. let m : key x < key (get_or xs j d) = ascends-head key x xs h j d l in omega (arith, at, m))

          three : (b : Bool) → p x ≡ b → newest_of key number k (cond b (x ∷ filter p xs) (filter p xs)) ≡ option_and_then (if_passes p) (newest_of key number k (x ∷ xs))
          three true e = rw (g, inner, none) (rw e refl)
          three false e = rw (g, inner, none) (rw e refl)
