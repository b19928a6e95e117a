-- The newest fact depends on which facts there are alone, and not on their order or on how often one is there.
use Rattle.std.proofs.Common.{◌≡◌, ℕ, zero, suc, ◌≤◌, Bool, true, false, List, [], ◌∷◌, refl, ap, ◌∙◌, arith, Contains}
use Rattle.std.specs.Prelude.{Option, Some, None, IfSome, nat_lt, if◌then◌else◌, ◌↔◌}
use Rattle.std.proofs.lemmas.Bool.{ltb-true, ltb-false}
use Rattle.pur_base.specs.Prelude.{newest, newer}
use Rattle.pyramid.specs.Layers.{AreDistinct}
use Rattle.pyramid.specs.lemmas.Newest.{newest_found}

module _ {F : Type 0} (number : F → ℕ) (t : F → Bool) where
  -- no fact that passes is newer than the newest one
  Bounds : Option F → F → Type 0
  Bounds None f = ⊥
  Bounds (Some g) f = number f ≤ number g

  bounds_newer : (x : F) (o : Option F) → Bounds (newer number x o) x
  unfolding Bounds
  bounds_newer x None = omega arith
  bounds_newer x (Some g) = one (nat_lt (number x) (number g)) refl
    where
      one : (b : Bool) → nat_lt (number x) (number g) ≡ b → Bounds (if b then Some g else Some x) x
      one true e = let h = ltb-true _ _ e in omega (arith, h)
      one false e = omega arith

  bounds_more : (x f : F) (o : Option F) → Bounds o f → Bounds (newer number x o) f
  unfolding Bounds
  bounds_more x f None h = absurd h
  bounds_more x f (Some g) h = one (nat_lt (number x) (number g)) refl
    where
      one : (b : Bool) → nat_lt (number x) (number g) ≡ b → Bounds (if b then Some g else Some x) f
      one true e = h
      one false e = let k = ltb-false _ _ e in omega (arith, h, k)

  newest_bounds : (xs : List F) (f : F) → Contains xs f → t f ≡ true → Bounds (newest number t xs) f
  newest_bounds [] f c p = absurd (omega (arith, c.1))
  newest_bounds (x ∷ xs) f (zero, l, e) p = rw (ap t e ∙ p) (rw e (bounds_newer f (newest number t xs)))
  newest_bounds (x ∷ xs) f (suc k, l, e) p = one (t x) (newest_bounds xs f (k, omega (arith, l), e) p)
    where
      one : (b : Bool) → Bounds (newest number t xs) f → Bounds (if b then newer number x (newest number t xs) else newest number t xs) f
      one true h = bounds_more x f (newest number t xs) h
      one false h = h

  -- there is a newest one of those that pass, and it is no older
  pub newest_over : (xs : List F) (f : F) → Contains xs f → t f ≡ true → (h : F) × (newest number t xs ≡ Some h) × (number f ≤ number h)
  unfolding Bounds
  newest_over xs f c p = one (newest number t xs) refl (newest_bounds xs f c p)
    where
      one : (o : Option F) → newest number t xs ≡ o → Bounds o f → (h : F) × (newest number t xs ≡ Some h) × (number f ≤ number h)
      one None e b = absurd b
      one (Some g) e b = (g, e, b)

  -- where different facts that pass have different numbers
  pub same_passing : (xs ys : List F) → ((f : F) → Contains xs f ↔ Contains ys f) → ((f g : F) → Contains ys f → Contains ys g → t f ≡ true → t g ≡ true → number f ≡ number g → f ≡ g)
      → newest number t xs ≡ newest number t ys
  unfolding Bounds
  same_passing xs ys same distinct = one (newest number t xs) (newest number t ys) (newest_found number t xs) (newest_found number t ys) (newest_bounds xs) (newest_bounds ys)
    where
      one : (o p : Option F) → IfSome o (λ f. Contains xs f × (t f ≡ true)) → IfSome p (λ f. Contains ys f × (t f ≡ true))
          → ((f : F) → Contains xs f → t f ≡ true → Bounds o f) → ((f : F) → Contains ys f → t f ≡ true → Bounds p f) → o ≡ p
      one None None a b c d = refl
      one None (Some g) a b c d = absurd (c g ((same g).1 b.0) b.1)
      one (Some f) None a b c d = absurd (d f ((same f).0 a.0) a.1)
      one (Some f) (Some g) a b c d =
          let fg : number f ≤ number g = d f ((same f).0 a.0) a.1 in
          let gf : number g ≤ number f = c g ((same g).1 b.0) b.1 in
          ap (λ x. Some x) (distinct f g ((same f).0 a.0) b.0 a.1 b.1 (omega (arith, fg, gf)))

  pub same_newest : (xs ys : List F) → ((f : F) → Contains xs f ↔ Contains ys f) → AreDistinct number ys → newest number t xs ≡ newest number t ys
  same_newest xs ys same distinct = same_passing xs ys same (λ f g c d p q e. distinct f g c d e)
