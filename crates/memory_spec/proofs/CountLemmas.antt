-- How many facts there are at most.
use Rattle.memory_spec.proofs.Prelude.{nat_tests, ◌≡◌, ◌⊎◌, ℕ, suc, ◌+◌, ◌<◌, ◌≤◌, List, [], ◌∷◌, ◌++◌, length, refl, sym, ap, ◌∙◌, arith, inl, inr, subst, Contains, AllPairs, length-append}
use Rattle.memory_spec.specs.Prelude.{Ascends, here, there, either, nowhere}

module _ {X : Type 0} where
  -- the list without one of its items
  record IsWithout (ys : List X) (x : X) : Type 0 where
    pub rest : List X
    pub long : length ys ≡ suc (length rest)
    pub others : (y : X) → Contains ys y → (y ≡ x) ⊎ Contains rest y

  without : (ys : List X) (x : X) → Contains ys x → IsWithout ys x
  without [] x c = absurd (nowhere x c)
  without (y ∷ ys) x c = elim (either y x ys c) [
    | inl same ↦ grind (arith, nat_tests, either)
    | inr behind ↦
        let w = without ys x behind in
        record {
          rest = y ∷ w.rest;
          long = ap suc w.long;
          others = λ z d. elim (either y z ys d) [
            | inl e ↦ inr (subst (λ k. Contains (y ∷ w.rest) k) (sym e) (here y w.rest))
            | inr e ↦ elim (w.others z e) [ inl q ↦ inl q | inr q ↦ inr (there y z w.rest q) ]
          ];
        }
  ]

  -- items of which no two are the same are no more than those among which they are
  pub no_more_than : (R : X → X → Type 0) → ((x : X) → R x x → ⊥) → (xs ys : List X) → AllPairs R xs → ((x : X) → Contains xs x → Contains ys x) → length xs ≤ length ys
  no_more_than R not [] ys pairs among = omega arith
  no_more_than R not (x ∷ xs) ys pairs among =
      let w = without ys x (among x (here x xs)) in
      let rest : length xs ≤ length w.rest = no_more_than R not xs w.rest (λ i j d l m. pairs (suc i) (suc j) d (omega (arith, l)) (omega (arith, m))) (λ y c. elim (w.others y (among y (there x y xs c))) [
        | inl same ↦ absurd (not x (subst (λ z. R x z) same (before y c)))
        | inr there ↦ there
      ]) in
      omega (arith, rest, w.long)
    where
      before : (y : X) → Contains xs y → R x y
      before y c = subst (λ z. R x z) c.2 (pairs 0 (suc c.0) y (omega arith) (let l = c.1 in omega (arith, l)))

-- facts of ascending keys that were taken from two lists are no more than both
pub taken_fewer : {F : Type 0} (key : F → ℕ) (older newer new : List F) → Ascends key new → ((f : F) → Contains new f → Contains (older ++ newer) f) → length new ≤ length older + length newer
taken_fewer key older newer new up source =
    let few = no_more_than (λ f g. key f < key g) (λ f less. omega (arith, less)) new (older ++ newer) up source in
    omega (arith, few, length-append older newer)
