-- Two lists woven to one: the elements of each stand in it in their order.
use Rattle.record_tables.proofs.Prelude.{◌≡◌, ◌⊎◌, ℕ, ◌+◌, List, [], ◌∷◌, ◌++◌, refl, sym, ap, arith, inl, inr, subst, map, sum_by, Contains, AllPairs, AllByRecursion, flat_map, sum_by-cons, here, there, either, nowhere, pairs_head, pairs_tail, no_pairs, cons_pairs}

-- the elements of the third list are those of the two others
abbrev pub Woven : {X : Type 0} → List X → List X → List X → Type 0
Woven ls rs [] = (ls ≡ []) × (rs ≡ [])
Woven {X} ls rs (x ∷ xs) = ((rest : List X) × (ls ≡ x ∷ rest) × Woven rest rs xs) ⊎ ((rest : List X) × (rs ≡ x ∷ rest) × Woven ls rest xs)

module _ {X : Type 0} where
  pub woven_left : (ps ls rs xs : List X) → Woven ls rs xs → Woven (ps ++ ls) rs (ps ++ xs)
  woven_left [] ls rs xs w = w
  woven_left (p ∷ ps) ls rs xs w = inl (ps ++ ls, refl, woven_left ps ls rs xs w)

  pub woven_right : (ps ls rs xs : List X) → Woven ls rs xs → Woven ls (ps ++ rs) (ps ++ xs)
  woven_right [] ls rs xs w = w
  woven_right (p ∷ ps) ls rs xs w = inr (ps ++ rs, refl, woven_right ps ls rs xs w)

  pub woven_either : (ls rs xs : List X) (y : X) → Woven ls rs xs → Contains xs y → Contains ls y ⊎ Contains rs y
  woven_either ls rs [] y w c = absurd (nowhere y c)
  woven_either ls rs (x ∷ xs) y w c = elim w [
    | inl v ↦ elim (either x y xs c) [
      | inl same ↦ inl (subst (λ l. Contains l y) (sym v.1) (subst (λ z. Contains (x ∷ v.0) z) (sym same) (here x v.0)))
      | inr d ↦ elim (woven_either v.0 rs xs y v.2 d) [
        | inl a ↦ inl (subst (λ l. Contains l y) (sym v.1) (there x y v.0 a))
        | inr b ↦ inr b
      ]
    ]
    | inr v ↦ elim (either x y xs c) [
      | inl same ↦ inr (subst (λ l. Contains l y) (sym v.1) (subst (λ z. Contains (x ∷ v.0) z) (sym same) (here x v.0)))
      | inr d ↦ elim (woven_either ls v.0 xs y v.2 d) [
        | inl a ↦ inl a
        | inr b ↦ inr (subst (λ l. Contains l y) (sym v.1) (there x y v.0 b))
      ]
    ]
  ]

  pub woven_all : (P : X → Type 0) (ls rs xs : List X) → Woven ls rs xs → AllByRecursion P ls → AllByRecursion P rs → AllByRecursion P xs
  woven_all P ls rs [] w h k = tt
  woven_all P ls rs (x ∷ xs) w h k = elim w [
    | inl v ↦ (let own = subst (λ l. AllByRecursion P l) v.1 h in (own.0, woven_all P v.0 rs xs v.2 own.1 k))
    | inr v ↦ (let own = subst (λ l. AllByRecursion P l) v.1 k in (own.0, woven_all P ls v.0 xs v.2 h own.1))
  ]

  pub woven_sum : (f : X → ℕ) (ls rs xs : List X) → Woven ls rs xs → sum_by f xs ≡ sum_by f ls + sum_by f rs
  woven_sum f ls rs [] w = rw (w.0, w.1) refl
  woven_sum f ls rs (x ∷ xs) w = elim w [
    | inl v ↦ (let rest = woven_sum f v.0 rs xs v.2 in let own = ap (λ l. sum_by f l) v.1 in omega (arith, rest, own, sum_by-cons f x xs, sum_by-cons f x v.0))
    | inr v ↦ (let rest = woven_sum f ls v.0 xs v.2 in let own = ap (λ l. sum_by f l) v.1 in omega (arith, rest, own, sum_by-cons f x xs, sum_by-cons f x v.0))
  ]

  -- each two, where each of the one and each of the other are told apart too
  pub woven_pairs : (R : X → X → Type 0) → ((x y : X) → R x y → R y x) → (ls rs xs : List X) → Woven ls rs xs → AllPairs R ls → AllPairs R rs
      → ((x y : X) → Contains ls x → Contains rs y → R x y) → AllPairs R xs
  woven_pairs R back ls rs [] w p q across = no_pairs R
  woven_pairs R back ls rs (x ∷ xs) w p q across = elim w [
    | inl v ↦
        let own : AllPairs R (x ∷ v.0) = subst (λ l. AllPairs R l) v.1 p in
        let in_own : (y : X) → Contains (x ∷ v.0) y → Contains ls y = λ y c. subst (λ l. Contains l y) (sym v.1) c in
        cons_pairs R x xs (λ y c. elim (woven_either v.0 rs xs y v.2 c) [
          | inl a ↦ pairs_head R x v.0 own y a
          | inr b ↦ across x y (in_own x (here x v.0)) b
        ]) (woven_pairs R back v.0 rs xs v.2 (pairs_tail R x v.0 own) q (λ y z c d. across y z (in_own y (there x y v.0 c)) d))
    | inr v ↦
        let own : AllPairs R (x ∷ v.0) = subst (λ l. AllPairs R l) v.1 q in
        let in_own : (y : X) → Contains (x ∷ v.0) y → Contains rs y = λ y c. subst (λ l. Contains l y) (sym v.1) c in
        cons_pairs R x xs (λ y c. elim (woven_either ls v.0 xs y v.2 c) [
          | inl a ↦ back y x (across y x a (in_own x (here x v.0)))
          | inr b ↦ pairs_head R x v.0 own y b
        ]) (woven_pairs R back ls v.0 xs v.2 p (pairs_tail R x v.0 own) (λ y z c d. across y z c (in_own z (there x z v.0 d))))
  ]

  pub woven_append : (ls rs xs cs ds ys : List X) → Woven ls rs xs → Woven cs ds ys → Woven (ls ++ cs) (rs ++ ds) (xs ++ ys)
  woven_append ls rs [] cs ds ys w v = rw (w.0, w.1) v
  woven_append ls rs (x ∷ xs) cs ds ys w v = elim w [
    | inl u ↦ inl (u.0 ++ cs, ap (λ l. l ++ cs) u.1, woven_append u.0 rs xs cs ds ys u.2 v)
    | inr u ↦ inr (u.0 ++ ds, ap (λ l. l ++ ds) u.1, woven_append ls u.0 xs cs ds ys u.2 v)
  ]

  -- one list in front of the other
  pub woven_joined : (ls rs : List X) → Woven ls rs (ls ++ rs)
  woven_joined [] [] = (refl, refl)
  woven_joined [] (b ∷ rs) = inr (rs, refl, woven_joined [] rs)
  woven_joined (a ∷ ls) rs = inl (ls, refl, woven_joined ls rs)

  -- list by list, of each one in front of the other
  pub woven_by_list : (f g : ℕ → List X) (us : List ℕ) → Woven (flat_map f us) (flat_map g us) (flat_map (λ u. f u ++ g u) us)
  woven_by_list f g [] = (refl, refl)
  woven_by_list f g (u ∷ us) = woven_append (f u) (g u) (f u ++ g u) (flat_map f us) (flat_map g us) (flat_map (λ u. f u ++ g u) us) (woven_joined (f u) (g u)) (woven_by_list f g us)

  -- one list alone
  pub woven_alone : (ls : List X) → Woven ls [] ls
  woven_alone [] = (refl, refl)
  woven_alone (x ∷ ls) = inl (ls, refl, woven_alone ls)

  -- one list between two parts of the other
  pub woven_between : (ls ns rs : List X) → Woven (ls ++ rs) ns (ls ++ (ns ++ rs))
  woven_between (x ∷ ls) ns rs = inl (ls ++ rs, refl, woven_between ls ns rs)
  woven_between [] (n ∷ ns) rs = inr (ns, refl, woven_between [] ns rs)
  woven_between [] [] rs = woven_alone rs

  -- the elements of the first are among all,
  pub woven_in : (ls rs xs : List X) → Woven ls rs xs → (y : X) → Contains ls y → Contains xs y
  woven_in ls rs [] w y c = subst (λ l. Contains l y) w.0 c
  woven_in ls rs (x ∷ xs) w y c = elim w [
    | inl v ↦ elim (either x y v.0 (subst (λ l. Contains l y) v.1 c)) [ inl same ↦ subst (λ z. Contains (x ∷ xs) z) (sym same) (here x xs) | inr d ↦ there x y xs (woven_in v.0 rs xs v.2 y d) ]
    | inr v ↦ there x y xs (woven_in ls v.0 xs v.2 y c)
  ]

  -- and so are each two of them
  pub woven_left_pairs : (R : X → X → Type 0) (ls rs xs : List X) → Woven ls rs xs → AllPairs R xs → AllPairs R ls
  woven_left_pairs R ls rs [] w p = subst (λ l. AllPairs R l) (sym w.0) p
  woven_left_pairs R ls rs (x ∷ xs) w p = elim w [
    | inl v ↦ subst (λ l. AllPairs R l) (sym v.1)
        (cons_pairs R x v.0 (λ y c. pairs_head R x xs p y (woven_in v.0 rs xs v.2 y c)) (woven_left_pairs R v.0 rs xs v.2 (pairs_tail R x xs p)))
    | inr v ↦ woven_left_pairs R ls v.0 xs v.2 (pairs_tail R x xs p)
  ]

pub woven_map : {X Y : Type 0} (f : X → Y) (ls rs xs : List X) → Woven ls rs xs → Woven (map f ls) (map f rs) (map f xs)
woven_map f ls rs [] w = rw (w.0, w.1) (refl, refl)
woven_map f ls rs (x ∷ xs) w = elim w [
  | inl v ↦ inl (map f v.0, ap (λ l. map f l) v.1, woven_map f v.0 rs xs v.2)
  | inr v ↦ inr (map f v.0, ap (λ l. map f l) v.1, woven_map f ls v.0 xs v.2)
]

pub woven_flat : {X Y : Type 0} (f : X → List Y) (ls rs xs : List X) → Woven ls rs xs → Woven (flat_map f ls) (flat_map f rs) (flat_map f xs)
woven_flat f ls rs [] w = rw (w.0, w.1) (refl, refl)
woven_flat f ls rs (x ∷ xs) w = elim w [
  | inl v ↦ subst (λ l. Woven l (flat_map f rs) (f x ++ flat_map f xs)) (sym (ap (λ l. flat_map f l) v.1)) (woven_left (f x) (flat_map f v.0) (flat_map f rs) (flat_map f xs) (woven_flat f v.0 rs xs v.2))
  | inr v ↦ subst (λ l. Woven (flat_map f ls) l (f x ++ flat_map f xs)) (sym (ap (λ l. flat_map f l) v.1)) (woven_right (f x) (flat_map f ls) (flat_map f v.0) (flat_map f xs) (woven_flat f ls v.0 xs v.2))
]
