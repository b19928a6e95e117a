-- What a flush keeps.
use Rattle.pyramid.proofs.Prelude.{◌≡◌, ℕ, suc, ◌<◌, Bool, true, false, List, [], ◌∷◌, refl, sym, ◌∙◌, arith, inl, inr, All, Contains, subst, Option, Some, None, IfSome, nat_lt, ◌==◌, if◌then◌else◌, ltb-true, ltb-false, lt-ltb, eqb-true, eq-eqb, All-cons, All-head, All-tail, All-contains, newer, has_key, Ascends, newest_of, IsOrdered, IsBefore, lasts, newest_found, ascends-cons, ascends-nil}

IsThat : {A : Type 0} → Option A → Type 0
IsThat None = ⊥
IsThat (Some x) = Unit {0}

none_some : {A : Type 0} {x : A} → None ≡ Some x → ⊥
unfolding IsThat
none_some e = subst IsThat (sym e) tt

module _ {F : Type 0} (key : F → ℕ) where
  all_lasts : (n : ℕ) (xs : List F) → All (λ f. n < key f) xs → All (λ f. n < key f) (lasts key xs)
  all_lasts n [] h = h
  all_lasts n (x ∷ []) h = h
  all_lasts n (x ∷ y ∷ ys) h = one (all_lasts n (y ∷ ys) (All-tail (λ f. n < key f) x (y ∷ ys) h)) (nat_lt (key x) (key y))
    where
      one : All (λ f. n < key f) (lasts key (y ∷ ys)) → (b : Bool) → All (λ f. n < key f) (if b then x ∷ lasts key (y ∷ ys) else lasts key (y ∷ ys))
      one h2 true = All-cons (λ f. n < key f) x (lasts key (y ∷ ys)) (All-head (λ f. n < key f) x (y ∷ ys) h) h2
      one h2 false = h2

module _ {F : Type 0} (key number : F → ℕ) where
  ordered-tail : (x : F) (xs : List F) → IsOrdered key number (x ∷ xs) → IsOrdered key number xs
  ordered-tail x xs h i j d l m = h (suc i) (suc j) d (omega (arith, l)) (omega (arith, m))

  ordered-head : (x : F) (xs : List F) → IsOrdered key number (x ∷ xs) → All (λ f. IsBefore key number x f) xs
  ordered-head x xs h j d less = h 0 (suc j) d (omega arith) (omega (arith, less))

  pub ascends_lasts : (xs : List F) → IsOrdered key number xs → Ascends key (lasts key xs)
  ascends_lasts [] h = ascends-nil key
  ascends_lasts (x ∷ []) h = λ i j d l m. absurd (omega (arith, l, m))
  ascends_lasts (x ∷ y ∷ ys) h = one (ascends_lasts (y ∷ ys) (ordered-tail x (y ∷ ys) h)) (nat_lt (key x) (key y)) refl
    where
      one : Ascends key (lasts key (y ∷ ys)) → (b : Bool) → nat_lt (key x) (key y) ≡ b → Ascends key (if b then x ∷ lasts key (y ∷ ys) else lasts key (y ∷ ys))
      one h2 false e = h2
      one h2 true e =
          let xy : key x < key y = ltb-true _ _ e in
          let up : All (λ f. key x < key f) (y ∷ ys) = All-cons (λ f. key x < key f) y ys xy
          (λ j d less. elim (ordered-head y ys (ordered-tail x (y ∷ ys) h) j d less) [ inl a ↦ omega (arith, xy, a) | inr b ↦ let same = b.0 in omega (arith, xy, same) ]) in
          ascends-cons key x (lasts key (y ∷ ys)) (all_lasts key (key x) (y ∷ ys) up) h2

  pub newest_lasts : (k : ℕ) (xs : List F) → IsOrdered key number xs → newest_of key number k (lasts key xs) ≡ newest_of key number k xs
  newest_lasts k [] h = refl
  newest_lasts k (x ∷ []) h = refl
  newest_lasts k (x ∷ y ∷ ys) h = one (newest_lasts k (y ∷ ys) (ordered-tail x (y ∷ ys) h)) (nat_lt (key x) (key y)) refl
    where
      same_key : nat_lt (key x) (key y) ≡ false → key x ≡ key y
      same_key e = elim (h 0 1 x (omega arith) (omega arith)) [ inl a ↦ let le = ltb-false (key x) (key y) e in absurd (omega (arith, a, le)) | inr b ↦ b.0 ]

      older : (g : F) → Contains (y ∷ ys) g → key g ≡ key x → number x < number g
      older g c e = elim (All-contains (λ f. IsBefore key number x f) (y ∷ ys) g (ordered-head x (y ∷ ys) h) c) [ inl a ↦ absurd (omega (arith, a, e)) | inr b ↦ b.1 ]

      passes : (o : Option F) → IfSome o (λ f. Contains (y ∷ ys) f × (has_key key k f ≡ true)) → o ≡ newest_of key number k (y ∷ ys) → key x ≡ k → key x ≡ key y → newer number x o ≡ o
      passes None c e at same = absurd (none_there (eq-eqb (key y) k (sym same ∙ at)) e)
        where
          none_there : (key y == k) ≡ true → None ≡ newest_of key number k (y ∷ ys) → ⊥
          none_there t e = some_there (newest_of key number k ys) (rw t at e)
            where
              some_there : (o : Option F) → None ≡ newer number y o → ⊥
              some_there None e = none_some e
              some_there (Some g) e = two (nat_lt (number y) (number g)) e
                where
                  two : (b : Bool) → None ≡ (if b then Some g else Some y) → ⊥
                  two true e = none_some e
                  two false e = none_some e
      passes (Some g) c e at same = rw (lt-ltb (number x) (number g) (older g c.0 (eqb-true _ _ c.1 ∙ sym at))) refl

      one : newest_of key number k (lasts key (y ∷ ys)) ≡ newest_of key number k (y ∷ ys) → (b : Bool) → nat_lt (key x) (key y) ≡ b
          → newest_of key number k (if b then x ∷ lasts key (y ∷ ys) else lasts key (y ∷ ys)) ≡ newest_of key number k (x ∷ y ∷ ys)
      one inner true e = rw inner refl
      one inner false e = rw inner (two (key x == k) refl)
        where
          two : (c : Bool) → (key x == k) ≡ c → newest_of key number k (y ∷ ys) ≡ (if c then newer number x (newest_of key number k (y ∷ ys)) else newest_of key number k (y ∷ ys))
          two false t = refl
          two true t = sym (passes (newest_of key number k (y ∷ ys)) (newest_found number (has_key key k) (y ∷ ys)) refl (eqb-true _ _ t) (same_key e))
