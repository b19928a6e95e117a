-- What holds of each element of lists, and of each two.
use Rattle.std.proofs.Common.{◌≡◌, ℕ, zero, suc, ◌<◌, Bool, true, false, cond, List, [], ◌∷◌, ◌++◌, length, get_or, filter, refl, sym, ap, ◌∙◌, arith, inl, inr, subst, Contains, AllPairs}
use Rattle.std.specs.List.{AllByRecursion, AllZip}
use Rattle.std.proofs.lemmas.List.Elements.{Contains-append_left, Contains-append_right, Contains-append_cases}
use Rattle.std.proofs.lemmas.List.Kept.{AllPairs-cons}
use Rattle.memory_spec.specs.Prelude.{here, there, either, nowhere, all_contained}

-- ---- each element

pub all_weaker : {X : Type 0} (P Q : X → Type 0) → ((x : X) → P x → Q x) → (xs : List X) → AllByRecursion P xs → AllByRecursion Q xs
all_weaker P Q w [] h = tt
all_weaker P Q w (x ∷ xs) h = (w x h.0, all_weaker P Q w xs h.1)

-- what passes stands between what doesn't
pub passing : {X : Type 0} (test : X → Bool) (front own back : List X) → AllByRecursion (λ x. test x ≡ false) front → AllByRecursion (λ x. test x ≡ true) own → AllByRecursion (λ x. test x ≡ false) back
    → filter test (front ++ (own ++ back)) ≡ own
passing test [] [] [] h k l = refl
passing test [] [] (x ∷ back) h k l = ap (λ b. cond b (x ∷ filter test back) (filter test back)) l.0 ∙ passing test [] [] back tt tt l.1
passing test [] (x ∷ own) back h k l = ap (λ b. cond b (x ∷ filter test (own ++ back)) (filter test (own ++ back))) k.0 ∙ ap (λ xs. x ∷ xs) (passing test [] own back tt k.1 l)
passing test (x ∷ front) own back h k l = ap (λ b. cond b (x ∷ filter test (front ++ (own ++ back))) (filter test (front ++ (own ++ back)))) h.0 ∙ passing test front own back h.1 k l

-- ---- each two

module _ {X : Type 0} (R : X → X → Type 0) where
  pub pairs_head : (x : X) (xs : List X) → AllPairs R (x ∷ xs) → (y : X) → Contains xs y → R x y
  pairs_head x xs h y c = subst (λ z. R x z) c.2 (h 0 (suc c.0) y (omega arith) (let l = c.1 in omega (arith, l)))

  pub pairs_tail : (x : X) (xs : List X) → AllPairs R (x ∷ xs) → AllPairs R xs
  pairs_tail x xs h i j d l m = h (suc i) (suc j) d (omega (arith, l)) (omega (arith, m))

  pub no_pairs : AllPairs R []
  no_pairs i j d l m = absurd (omega (arith, m))

  pub cons_pairs : (x : X) (xs : List X) → ((y : X) → Contains xs y → R x y) → AllPairs R xs → AllPairs R (x ∷ xs)
  cons_pairs x xs h p = AllPairs-cons R x xs (all_contained (R x) xs h) p

  pub pairs_append : (xs ys : List X) → AllPairs R xs → AllPairs R ys → ((x y : X) → Contains xs x → Contains ys y → R x y) → AllPairs R (xs ++ ys)
  pairs_append [] ys p q h = q
  pairs_append (x ∷ xs) ys p q h =
      cons_pairs x (xs ++ ys) (λ y c. elim (Contains-append_cases xs ys y c) [ inl a ↦ pairs_head x xs p y a | inr b ↦ h x y (here x xs) b ])
      (pairs_append xs ys (pairs_tail x xs p) q (λ z y c d. h z y (there x z xs c) d))

  pub pairs_front : (xs ys : List X) → AllPairs R (xs ++ ys) → AllPairs R xs
  pairs_front [] ys h = no_pairs
  pairs_front (x ∷ xs) ys h = cons_pairs x xs (λ y c. pairs_head x (xs ++ ys) h y (Contains-append_left xs ys y c)) (pairs_front xs ys (pairs_tail x (xs ++ ys) h))

  pub pairs_back : (xs ys : List X) → AllPairs R (xs ++ ys) → AllPairs R ys
  pairs_back [] ys h = h
  pairs_back (x ∷ xs) ys h = pairs_back xs ys (pairs_tail x (xs ++ ys) h)

  pub pairs_across : (xs ys : List X) → AllPairs R (xs ++ ys) → (x y : X) → Contains xs x → Contains ys y → R x y
  pairs_across [] ys h x y c d = absurd (nowhere x c)
  pairs_across (z ∷ xs) ys h x y c d = elim (either z x xs c) [
    | inl same ↦ subst (λ w. R w y) (sym same) (pairs_head z (xs ++ ys) h y (Contains-append_right xs ys y d))
    | inr rest ↦ pairs_across xs ys (pairs_tail z (xs ++ ys) h) x y rest d
  ]

  -- the other way round
  pub pairs_swapped : ((x y : X) → R x y → R y x) → (xs ys : List X) → AllPairs R (xs ++ ys) → AllPairs R (ys ++ xs)
  pairs_swapped back xs ys h = pairs_append ys xs (pairs_back xs ys h) (pairs_front xs ys h) (λ y x c d. back x y (pairs_across xs ys h x y d c))

-- ---- two lists, place by place

module _ {A B : Type 0} (R : A → B → Type 0) where
  pub zip_join : (xs : List A) (ys : List B) (vs : List A) (ws : List B) → AllZip R xs ys → AllZip R vs ws → AllZip R (xs ++ vs) (ys ++ ws)
  zip_join [] [] vs ws h k = k
  zip_join [] (y ∷ ys) vs ws h k = absurd h
  zip_join (x ∷ xs) [] vs ws h k = absurd h
  zip_join (x ∷ xs) (y ∷ ys) vs ws h k = (h.0, zip_join xs ys vs ws h.1 k)

  -- the parts of both
  pub zip_parts : (xs : List A) (ys : List B) (vs : List A) (ws : List B) → length xs ≡ length ys → AllZip R (xs ++ vs) (ys ++ ws) → AllZip R xs ys × AllZip R vs ws
  zip_parts [] [] vs ws l h = (tt, h)
  zip_parts [] (y ∷ ys) vs ws l h = absurd (omega (arith, l))
  zip_parts (x ∷ xs) [] vs ws l h = absurd (omega (arith, l))
  zip_parts (x ∷ xs) (y ∷ ys) vs ws l h = let rest = zip_parts xs ys vs ws (omega (arith, l)) h.1 in ((h.0, rest.0), rest.1)

  -- the elements of one place
  pub zip_at : (xs : List A) (ys : List B) (i : ℕ) (d : A) (e : B) → AllZip R xs ys → i < length xs → R (get_or xs i d) (get_or ys i e)
  zip_at [] ys i d e h l = absurd (omega (arith, l))
  zip_at (x ∷ xs) [] i d e h l = absurd h
  zip_at (x ∷ xs) (y ∷ ys) zero d e h l = h.0
  zip_at (x ∷ xs) (y ∷ ys) (suc i) d e h l = zip_at xs ys i d e h.1 (omega (arith, l))

  -- a list that stands beside two
  pub record IsSplit (all : List A) (ys zs : List B) : Type 0 where
    pub front : List A
    pub rest : List A
    pub whole : all ≡ front ++ rest
    pub first : AllZip R front ys
    pub second : AllZip R rest zs

  pub zip_split : (all : List A) (ys zs : List B) → AllZip R all (ys ++ zs) → IsSplit all ys zs
  zip_split all [] zs h = record { front = []; rest = all; whole = refl; first = tt; second = h }
  zip_split [] (y ∷ ys) zs h = absurd h
  zip_split (x ∷ all) (y ∷ ys) zs h =
      let w = zip_split all ys zs h.1 in
      record { front = x ∷ w.front; rest = w.rest; whole = ap (λ l. x ∷ l) w.whole; first = (h.0, w.first); second = w.second }

-- two relations at once
pub zip_both : {A B : Type 0} (R S : A → B → Type 0) (xs : List A) (ys : List B) → AllZip R xs ys → AllZip S xs ys → AllZip (λ a b. R a b × S a b) xs ys
zip_both R S [] [] h k = tt
zip_both R S [] (y ∷ ys) h k = absurd h
zip_both R S (x ∷ xs) [] h k = absurd h
zip_both R S (x ∷ xs) (y ∷ ys) h k = ((h.0, k.0), zip_both R S xs ys h.1 k.1)
