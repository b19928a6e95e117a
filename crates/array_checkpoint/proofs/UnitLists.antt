-- Elements of lists, and each two of them.
use Rattle.array_checkpoint.proofs.Prelude.{◌≡◌, ◌≢◌, ℕ, zero, suc, ◌<◌, ◌≤◌, List, [], ◌∷◌, length, get_or, refl, sym, ap, arith, inl, inr, subst, map, Contains, AllPairs, Some, slice_get, length-append, AllByRecursion, AllZip, flat_map, cases_lt, get_or_default, get_or-map, length-map, Contains-append_left, Contains-append_right, same_Some, either, nowhere, contains_at, pairs_across, pairs_back, pairs_front}
use Rattle.record_tables.proofs.Woven.{Woven}

-- ---- elements

-- what stands at a place of a list is in it
pub in_at : {X : Type 0} (xs : List X) (i : ℕ) (d : X) → i < length xs → Contains xs (get_or xs i d)
in_at xs i d l = (i, l, get_or_default xs i (get_or xs i d) d l)

module _ {A B : Type 0} (f : A → List B) where
  pub flat_in : (xs : List A) (x : A) (b : B) → Contains xs x → Contains (f x) b → Contains (flat_map f xs) b
  flat_in [] x b c e = absurd (nowhere x c)
  flat_in (z ∷ xs) x b c e = elim (either z x xs c) [
    | inl same ↦ Contains-append_left (f z) (flat_map f xs) b (subst (λ y. Contains (f y) b) same e)
    | inr rest ↦ Contains-append_right (f z) (flat_map f xs) b (flat_in xs x b rest e)
  ]

  -- none of the lists is longer than all
  pub flat_long : (xs : List A) (x : A) → Contains xs x → length (f x) ≤ length (flat_map f xs)
  flat_long [] x c = absurd (nowhere x c)
  flat_long (z ∷ xs) x c =
      let long = length-append (f z) (flat_map f xs) in
      elim (either z x xs c) [
        | inl same ↦ (let own : length (f x) ≡ length (f z) = ap (λ y. length (f y)) same in omega (arith, long, own))
        | inr rest ↦ (let less = flat_long xs x rest in omega (arith, long, less))
      ]

-- ---- each two

module _ {X : Type 0} (R : X → X → Type 0) (back : (x y : X) → R x y → R y x) where
  -- two places, in any order
  pub pairs_two : (xs : List X) (i j : ℕ) (d : X) → AllPairs R xs → i ≢ j → i < length xs → j < length xs → R (get_or xs i d) (get_or xs j d)
  pairs_two xs i j d h other l k = elim (cases_lt i j) [
    | inl less ↦ h i j d less k
    | inr least ↦ back (get_or xs j d) (get_or xs i d) (h j i d (omega (arith, least, other)) l)
  ]

  -- those of two lists
  pub flat_two : {A : Type 0} (f : A → List X) (xs : List A) (i j : ℕ) (x y : A) (a b : X) → AllPairs R (flat_map f xs) → i ≢ j → slice_get xs i ≡ Some x → slice_get xs j ≡ Some y
      → Contains (f x) a → Contains (f y) b → R a b
  flat_two f [] i j x y a b h other at to c e = absurd (cc)
  flat_two f (z ∷ xs) zero zero x y a b h other at to c e = absurd (other refl)
  flat_two f (z ∷ xs) zero (suc j) x y a b h other at to c e =
      pairs_across R (f z) (flat_map f xs) h a b (subst (λ w. Contains (f w) a) (sym (same_Some z x at)) c) (flat_in f xs y b (contains_at xs j y to) e)
  flat_two f (z ∷ xs) (suc i) zero x y a b h other at to c e =
      back b a (pairs_across R (f z) (flat_map f xs) h b a (subst (λ w. Contains (f w) b) (sym (same_Some z y to)) e) (flat_in f xs x a (contains_at xs i x at) c))
  flat_two f (z ∷ xs) (suc i) (suc j) x y a b h other at to c e =
      flat_two f xs i j x y a b (pairs_back R (f z) (flat_map f xs) h) (λ same. other (ap suc same)) at to c e

module _ {X : Type 0} (R : X → X → Type 0) where
  -- those of one of the lists
  pub flat_own : {A : Type 0} (f : A → List X) (xs : List A) (x : A) → AllPairs R (flat_map f xs) → Contains xs x → AllPairs R (f x)
  flat_own f [] x h c = absurd (nowhere x c)
  flat_own f (z ∷ xs) x h c = elim (either z x xs c) [
    | inl same ↦ subst (λ y. AllPairs R (f y)) (sym same) (pairs_front R (f z) (flat_map f xs) h)
    | inr rest ↦ flat_own f xs x (pairs_back R (f z) (flat_map f xs) h) rest
  ]

  -- those of a list that others were made from
  pub pairs_of_map : {A : Type 0} (f : A → X) (xs : List A) → AllPairs R (map f xs) → AllPairs (λ x y. R (f x) (f y)) xs
  pairs_of_map f xs h i j d l m =
      subst (λ a. R a (f (get_or xs j d))) (get_or-map f xs i d (f d) (omega (arith, l, m)))
      (subst (λ b. R (get_or (map f xs) i (f d)) b) (get_or-map f xs j d (f d) m) (h i j (f d) l (let long = length-map xs f in omega (arith, long, m))))

-- ---- place by place, and woven

pub zip_with : {A B : Type 0} (P : A → Type 0) (Q : B → Type 0) (R S : A → B → Type 0) → ((a : A) (b : B) → P a → Q b → R a b → S a b)
    → (xs : List A) (ys : List B) → AllByRecursion P xs → AllByRecursion Q ys → AllZip R xs ys → AllZip S xs ys
zip_with P Q R S w [] [] h k z = tt
zip_with P Q R S w [] (y ∷ ys) h k z = absurd z
zip_with P Q R S w (x ∷ xs) [] h k z = absurd z
zip_with P Q R S w (x ∷ xs) (y ∷ ys) h k z = (w x y h.0 k.0 z.0, zip_with P Q R S w xs ys h.1 k.1 z.1)

-- what holds of all holds of each of the second list
pub woven_second : {X : Type 0} (P : X → Type 0) (ls rs xs : List X) → Woven ls rs xs → AllByRecursion P xs → AllByRecursion P rs
woven_second P ls rs [] w h = subst (λ l. AllByRecursion P l) (sym w.1) tt
woven_second P ls rs (x ∷ xs) w h = elim w [
  | inl v ↦ woven_second P v.0 rs xs v.2 h.1
  | inr v ↦ subst (λ l. AllByRecursion P l) (sym v.1) (h.0, woven_second P ls v.0 xs v.2 h.1)
]
