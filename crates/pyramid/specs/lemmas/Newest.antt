-- The newest of several lists of facts.
use Rattle.std.proofs.lemmas.Bool.Decides.{nat_tests}
use Rattle.std.proofs.Common.{◌≡◌, ℕ, zero, suc, ◌<◌, Bool, true, false, List, [], ◌∷◌, ◌++◌, length, get_or, refl, arith, cond, All, Contains}
use Rattle.std.specs.Prelude.{Option, Some, None, IfSome, nat_lt, if◌then◌else◌}
use Rattle.std.proofs.lemmas.Bool.{ltb-true, ltb-false, lt-ltb, le-ltb}
use Rattle.pur_base.specs.Prelude.{newest, newer}
use Rattle.pyramid.specs.Merging.{later}

module _ {F : Type 0} (number : F → ℕ) where
  pub later_none : (a : Option F) → later number a None ≡ a
  later_none None = refl
  later_none (Some f) = refl

  three : (f g h : F) (p q r : Bool) → nat_lt (number f) (number g) ≡ p → nat_lt (number g) (number h) ≡ q → nat_lt (number f) (number h) ≡ r
      → later number (cond p (Some g) (Some f)) (Some h) ≡ newer number f (cond q (Some h) (Some g))
  three f g h true true true a b c = rw (b, c) refl
  three f g h true true false a b c = absurd (omega (arith, ltb-true _ _ a, ltb-true _ _ b, ltb-false _ _ c))
  three f g h true false r a b c = rw (b, a) refl
  three f g h false true r a b c = rw c refl
  three f g h false false true a b c = absurd (omega (arith, ltb-false _ _ a, ltb-false _ _ b, ltb-true _ _ c))
  three f g h false false false a b c = rw (c, a) refl

  pub later-assoc : (a b c : Option F) → later number (later number a b) c ≡ later number a (later number b c)
  later-assoc None b c = refl
  later-assoc (Some f) None c = refl
  later-assoc (Some f) (Some g) None = later_none (newer number f (Some g))
  later-assoc (Some f) (Some g) (Some h) = three f g h _ _ _ refl refl refl

  pub newest-cons : (t : F → Bool) (x : F) (xs : List F) (b : Option F)
      → (if t x then newer number x (later number (newest number t xs) b) else later number (newest number t xs) b) ≡ later number (newest number t (x ∷ xs)) b
  newest-cons t x xs b = grind (arith, nat_tests, newer, newest, later-assoc)

  pub newest-append : (t : F → Bool) (xs ys : List F) → newest number t (xs ++ ys) ≡ later number (newest number t xs) (newest number t ys)
  newest-append t [] ys = refl
  newest-append t (x ∷ xs) ys = rw (newest-append t xs ys) (newest-cons t x xs (newest number t ys))

  -- none passes
  pub newest_none : (t : F → Bool) (xs : List F) → All (λ x. t x ≡ false) xs → newest number t xs ≡ None
  newest_none t [] h = refl
  newest_none t (x ∷ xs) h =
      let first : t x ≡ false = h 0 x (omega arith) in
      rw first (newest_none t xs (λ k d less. h (suc k) d (omega (arith, less))))

  -- the newest is one of the facts that pass
  pub newest_found : (t : F → Bool) (xs : List F) → IfSome (newest number t xs) (λ f. Contains xs f × (t f ≡ true))
  newest_found t [] = tt
  newest_found t (x ∷ xs) = one (t x) refl (newest number t xs) (newest_found t xs)
    where
      head : Contains (x ∷ xs) x
      head = (0, omega arith, refl)

      tail : (f : F) → Contains xs f → Contains (x ∷ xs) f
      tail f c = (suc c.0, omega (arith, c.1), c.2)

      two : (b : Bool) (g : F) → t x ≡ true → Contains xs g × (t g ≡ true) → IfSome (if b then Some g else Some x) (λ f. Contains (x ∷ xs) f × (t f ≡ true))
      two true g e h = (tail g h.0, h.1)
      two false g e h = (head, e)

      one : (b : Bool) → t x ≡ b → (o : Option F) → IfSome o (λ f. Contains xs f × (t f ≡ true))
          → IfSome (if b then newer number x o else o) (λ f. Contains (x ∷ xs) f × (t f ≡ true))
      one true e None h = (head, e)
      one true e (Some g) h = two (nat_lt (number x) (number g)) g e h
      one false e None h = tt
      one false e (Some g) h = (tail g h.0, h.1)

  -- a fact that passes is the newest where all others that pass have smaller numbers
  pub newest_is : (t : F → Bool) (xs : List F) (i : ℕ) (d : F) → i < length xs → t (get_or xs i d) ≡ true
      → ((j : ℕ) (e : F) → j < length xs → (j ≡ i → ⊥) → t (get_or xs j e) ≡ true → number (get_or xs j e) < number (get_or xs i d))
      → newest number t xs ≡ Some (get_or xs i d)
  newest_is t [] i d less passes others = absurd (omega (arith, less))
  newest_is t (x ∷ xs) zero d less passes others = rw passes (one (newest number t xs) (newest_found t xs))
    where
      one : (o : Option F) → IfSome o (λ f. Contains xs f × (t f ≡ true)) → newer number x o ≡ Some x
      one None h = refl
      one (Some g) h =
          let c = h.0 in
          let at : get_or xs c.0 g ≡ g = c.2 in
          let below : number (get_or xs c.0 g) < number x = others (suc c.0) g (omega (arith, c.1)) (λ e. omega (arith, e)) (rw at h.1) in
          let small : number g < number x = rw at at below in
          rw (le-ltb (number x) (number g) (omega (arith, small))) refl
  newest_is t (x ∷ xs) (suc i) d less passes others =
      rw (newest_is t xs i d (omega (arith, less)) passes (λ j e l ne p. others (suc j) e (omega (arith, l)) (λ s. ne (omega (arith, s))) p)) (one (t x) refl)
    where
      one : (b : Bool) → t x ≡ b → (if b then newer number x (Some (get_or xs i d)) else Some (get_or xs i d)) ≡ Some (get_or xs i d)
      one true e = rw (lt-ltb (number x) (number (get_or xs i d)) (others 0 x (omega arith) (λ s. omega (arith, s)) e)) refl
      one false e = refl
