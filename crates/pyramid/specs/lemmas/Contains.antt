-- What lists contain.
use Rattle.std.proofs.lemmas.Bool.Decides.{nat_tests}
use Rattle.std.proofs.Common.{◌≡◌, ◌⊎◌, suc, Bool, true, false, List, [], ◌∷◌, refl, arith, inl, inr, Contains, cond}
use Rattle.std.specs.Prelude.{filter}

module _ {X : Type 0} where
  pub here : (x : X) (xs : List X) → Contains (x ∷ xs) x
  here x xs = (0, omega arith, refl)

  pub there : (x f : X) (xs : List X) → Contains xs f → Contains (x ∷ xs) f
  there x f xs c = (suc c.0, omega (arith, c.1), c.2)

  pub either : (x f : X) (xs : List X) → Contains (x ∷ xs) f → (f ≡ x) ⊎ Contains xs f
  either x f xs c = grind (arith, nat_tests)

  pub nowhere : (f : X) → Contains [] f → ⊥
  nowhere f c = omega (arith, c.1)

  -- a filter keeps what passes
  pub filtered : (p : X → Bool) (xs : List X) (f : X) → Contains xs f → p f ≡ true → Contains (filter p xs) f
  filtered p [] f c e = absurd (nowhere f c)
  filtered p (x ∷ xs) f c e = one (either x f xs c) (λ d. filtered p xs f d e)
    where
      one : (f ≡ x) ⊎ Contains xs f → (Contains xs f → Contains (filter p xs) f) → Contains (filter p (x ∷ xs)) f
      one (inl same) inner = let passes : p x ≡ true = rw (← same) e in rw (passes, same) (here x (filter p xs))
      one (inr c) inner = two (p x) (inner c)
        where
          two : (b : Bool) → Contains (filter p xs) f → Contains (cond b (x ∷ filter p xs) (filter p xs)) f
          two true d = there x f (filter p xs) d
          two false d = d

  pub of_filter : (p : X → Bool) (xs : List X) (f : X) → Contains (filter p xs) f → Contains xs f
  of_filter p [] f c = c
  of_filter p (x ∷ xs) f c = one (p x) (λ d. of_filter p xs f d) c
    where
      one : (b : Bool) → (Contains (filter p xs) f → Contains xs f) → Contains (cond b (x ∷ filter p xs) (filter p xs)) f → Contains (x ∷ xs) f
      one true inner c = elim (either x f (filter p xs) c) [ inl same ↦ rw same (here x xs) | inr d ↦ there x f xs (inner d) ]
      one false inner c = there x f xs (inner c)
