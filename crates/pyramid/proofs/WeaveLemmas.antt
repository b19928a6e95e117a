-- Two lists in order, woven from behind.
use Rattle.pyramid.proofs.Prelude.{nat_tests, ◌≡◌, ◌≢◌, ◌⊎◌, ◌↔◌, ℕ, zero, suc, ◌+◌, ◌<◌, ◌≤◌, List, [], ◌∷◌, ◌++◌, length, get_or, set, take, drop, refl, sym, ap, ◌∙◌, arith, inl, inr, Contains, subst, AllPairs, take-append-drop, get_or-take, take_more, take-set-le, All-append, Contains-append_left, Contains-append_right, Contains-append_cases, cases_order, IsBefore, IsOrdered, here, there, either, nowhere, all_contained}
use Rattle.std.proofs.lemmas.Grind.{drop-set_at}
use Rattle.std.proofs.Math.Seq.{take-append_seam}
use Rattle.pyramid.proofs.InsertLemmas.{pairs-cons}
use Rattle.pyramid.proofs.SearchLemmas.{before-trans}

-- the first list in front of another
pub front_of : {X : Type 0} (n : ℕ) (xs ys : List X) → n ≡ length xs → take n (xs ++ ys) ≡ xs
front_of n xs ys e = rw e (take-append_seam xs ys)

-- a list in the place of one as long
pub slice_whole : {X : Type 0} (n : ℕ) (xs ys : List X) → length xs ≡ length ys → n ≡ length ys → take n (xs ++ drop (length xs) ys) ≡ xs
slice_whole n xs ys e l = front_of n xs (drop (length xs) ys) (omega (arith, e, l))

module _ {X : Type 0} (R : X → X → Type 0) where
  pub pairs-append : (xs ys : List X) → AllPairs R xs → AllPairs R ys → ((x y : X) → Contains xs x → Contains ys y → R x y) → AllPairs R (xs ++ ys)
  pairs-append [] ys a b h = b
  pairs-append (x ∷ xs) ys a b h = pairs-cons R x (xs ++ ys)
      (All-append (λ y. R x y) xs ys (λ j d l. a 0 (suc j) d (omega arith) (omega (arith, l))) (all_contained (λ y. R x y) ys (λ y c. h x y (here x xs) c)))
      (pairs-append xs ys (λ i j d l m. a (suc i) (suc j) d (omega (arith, l)) (omega (arith, m))) b (λ u v c d. h u v (there x u xs c) d))

  -- in a list with one behind, that one is behind the others
  pub pairs-last : (xs : List X) (y x : X) → AllPairs R (xs ++ y ∷ []) → Contains xs x → R x y
  pairs-last [] y x h c = absurd (nowhere x c)
  pairs-last (z ∷ xs) y x h c = elim (either z x xs c) [
    | inl same ↦ rw same (first xs z y h)
    | inr d ↦ pairs-last xs y x (λ i j e l m. h (suc i) (suc j) e (omega (arith, l)) (omega (arith, m))) d
  ]
    where
      at_end : (xs : List X) (y : X) → (k : ℕ) × (k < length (xs ++ y ∷ [])) × ((d : X) → get_or (xs ++ y ∷ []) k d ≡ y)
      at_end [] y = (0, omega arith, (λ d. refl))
      at_end (u ∷ us) y = let inner = at_end us y in (suc inner.0, (let l = inner.1 in omega (arith, l)), inner.2)

      first : (xs : List X) (z y : X) → AllPairs R (z ∷ (xs ++ y ∷ [])) → R z y
      first xs z y h = let e = at_end xs y in let is = e.2 z in let l = e.1 in rw is at (h 0 (suc e.0) z (omega arith) (omega (arith, l)))

  pub pairs-front : (xs ys : List X) → AllPairs R (xs ++ ys) → AllPairs R xs
  pairs-front [] ys h = λ i j d l m. absurd (omega (arith, m))
  pairs-front (x ∷ xs) ys h = pairs-cons R x xs (all_contained (λ y. R x y) xs (λ y c. up y (Contains-append_left xs ys y c)))
      (pairs-front xs ys (λ i j d l m. h (suc i) (suc j) d (omega (arith, l)) (omega (arith, m))))
    where
      up : (y : X) → Contains (xs ++ ys) y → R x y
      up y c = let at = c.2 in let l = c.1 in rw at at (h 0 (suc c.0) y (omega arith) (omega (arith, l)))

module _ {F : Type 0} (key number : F → ℕ) where
  -- the fronts that are left of two lists, and behind them what was taken from their ends
  pub record IsWoven (xs ys fs gs out : List F) : Type 0 where
    pub ordered : IsOrdered key number out
    pub above : (f g : F) → Contains fs f ⊎ Contains gs f → Contains out g → IsBefore key number f g
    pub same : (f : F) → (Contains xs f ⊎ Contains ys f) ↔ ((Contains fs f ⊎ Contains gs f) ⊎ Contains out f)

  pub swapped : (xs ys fs gs out : List F) → IsWoven xs ys fs gs out → IsWoven ys xs gs fs out
  swapped xs ys fs gs out h = record {
    ordered = h.ordered;
    above = λ f g c d. h.above f g (turn (Contains gs f) (Contains fs f) c) d;
    same = λ f. (
      (λ c. elim ((h.same f).0 (turn (Contains ys f) (Contains xs f) c)) [ inl a ↦ inl (turn (Contains fs f) (Contains gs f) a) | inr b ↦ inr b ]),
      (λ c. turn (Contains xs f) (Contains ys f) ((h.same f).1 (elim c [ inl a ↦ inl (turn (Contains gs f) (Contains fs f) a) | inr b ↦ inr b ]))),
    );
  }
    where
      turn : (A B : Type 0) → A ⊎ B → B ⊎ A
      turn A B (inl a) = inr a
      turn A B (inr b) = inl b

  -- the greatest of both fronts goes in front of what was taken
  pub weave_step : (xs ys fs gs out : List F) (x : F) → IsWoven xs ys (fs ++ x ∷ []) gs out → ((f : F) → Contains fs f → IsBefore key number f x) → ((f : F) → Contains gs f → IsBefore key number f x)
      → IsWoven xs ys fs gs (x ∷ out)
  weave_step xs ys fs gs out x h left right = record {
    ordered = pairs-cons (IsBefore key number) x out (all_contained (λ g. IsBefore key number x g) out (λ g d. h.above x g (inl (Contains-append_right fs (x ∷ []) x (here x []))) d)) h.ordered;
    above = λ f g c d. elim (either x g out d) [
      | inl same ↦ rw same (elim c [ inl a ↦ left f a | inr b ↦ right f b ])
      | inr e ↦ h.above f g (elim c [ inl a ↦ inl (Contains-append_left fs (x ∷ []) f a) | inr b ↦ inr b ]) e
    ];
    same = λ f. (
      (λ c. elim ((h.same f).0 c) [
        | inl a ↦ elim a [
          | inl b ↦ elim (Contains-append_cases fs (x ∷ []) f b) [
            | inl d ↦ inl (inl d)
            | inr d ↦ elim (either x f [] d) [ inl e ↦ inr (rw e (here x out)) | inr e ↦ absurd (nowhere f e) ]
          ]
          | inr b ↦ inl (inr b)
        ]
        | inr d ↦ inr (there x f out d)
      ]),
      (λ c. elim c [
        | inl a ↦ elim a [ inl b ↦ (h.same f).1 (inl (inl (Contains-append_left fs (x ∷ []) f b))) | inr b ↦ (h.same f).1 (inl (inr b)) ]
        | inr d ↦ elim (either x f out d) [
          | inl e ↦ (h.same f).1 (inl (inl (rw e (Contains-append_right fs (x ∷ []) x (here x [])))))
          | inr e ↦ (h.same f).1 (inr e)
        ]
      ]),
    );
  }

  -- nothing is taken yet

  -- the second list is taken whole
  pub weave_end : (xs ys fs out : List F) → IsOrdered key number fs → IsWoven xs ys fs [] out → IsOrdered key number (fs ++ out) × ((f : F) → Contains (fs ++ out) f ↔ (Contains xs f ⊎ Contains ys f))
  weave_end xs ys fs out up h = (
    pairs-append (IsBefore key number) fs out up h.ordered (λ f g c d. h.above f g (inl c) d),
    (λ f. (
      (λ c. (h.same f).1 (elim (Contains-append_cases fs out f c) [ inl a ↦ inl (inl a) | inr b ↦ inr b ])),
      (λ c. elim ((h.same f).0 c) [ inl a ↦ elim a [ inl b ↦ Contains-append_left fs out f b | inr b ↦ absurd (nowhere f b) ] | inr b ↦ Contains-append_right fs out f b ]),
    )),
  )

  -- what isn't behind is in front
  pub not_behind : (f g : F) → (IsBefore key number f g → ⊥) → number f ≢ number g → IsBefore key number g f
  not_behind f g not apart = grind (arith, nat_tests, cases_order)

  -- shorter fronts are the same too
  shorter : (xs ys : List F) (i at : ℕ) → at ≤ i → take i xs ≡ take i ys → take at xs ≡ take at ys
  shorter xs ys i at le e = sym (take_take at i xs le) ∙ ap (take at) e ∙ take_take at i ys le
    where
      take_take : (n m : ℕ) (zs : List F) → n ≤ m → take n (take m zs) ≡ take n zs
      take_take zero m zs l = refl
      take_take (suc n) zero zs l = absurd (omega (arith, l))
      take_take (suc n) (suc m) [] l = refl
      take_take (suc n) (suc m) (z ∷ zs) l = ap (λ w. z ∷ w) (take_take n m zs (omega (arith, l)))

  -- a list's front ends with the element at its end
  pub front_more : (xs : List F) (i at : ℕ) (x : F) → i ≡ at + 1 → i ≤ length xs → x ≡ get_or xs at x → take i xs ≡ take at xs ++ x ∷ []
  front_more xs i at x e le is = rw e (take_more xs at x (omega (arith, e, le)) ∙ ap (λ y. take at xs ++ y ∷ []) (sym is))

  pub front_ordered : (xs : List F) (i : ℕ) → IsOrdered key number xs → IsOrdered key number (take i xs)
  front_ordered xs i h = pairs-front (IsBefore key number) (take i xs) (drop i xs) (rw take-append-drop h)

  -- what is in front of a fact that stands before another
  pub front_before : (xs : List F) (i at : ℕ) (x y : F) → IsOrdered key number xs → i ≡ at + 1 → i ≤ length xs → x ≡ get_or xs at x → IsBefore key number x y → (f : F) → Contains (take i xs) f → IsBefore key number f y
  front_before xs i at x y h e le is b f c =
      let more = front_more xs i at x e le is in
      elim (Contains-append_cases (take at xs) (x ∷ []) f (rw more at c)) [
        | inl d ↦ before-trans key number f x y (pairs-last (IsBefore key number) (take at xs) x f (rw more at (front_ordered xs i h)) d) b
        | inr d ↦ elim (either x f [] d) [ inl same ↦ rw same b | inr none ↦ absurd (nowhere f none) ]
      ]

  -- a fact of the first list moves
  pub move_left : (facts xs ys : List F) (i at j k : ℕ) (x : F) → i ≡ at + 1 → k ≡ at + j → k < length facts → i ≤ length xs → IsOrdered key number xs
      → take i facts ≡ take i xs → IsWoven xs ys (take i xs) (take j ys) (drop (i + j) facts) → x ≡ get_or xs at x → ((f : F) → Contains (take j ys) f → IsBefore key number f x)
      → (take at (set facts k x) ≡ take at xs) × IsWoven xs ys (take at xs) (take j ys) (drop (at + j) (set facts k x))
  move_left facts xs ys i at j k x e ke l le h front w is right =
      let more = front_more xs i at x e le is in
      let tail : drop (at + j) (set facts k x) ≡ x ∷ drop (i + j) facts = drop-set_at facts k (at + j) x (sym ke) l ∙ ap (λ n. x ∷ drop n facts) (omega (arith, e, ke)) in (
        take-set-le at facts k x (omega (arith, ke)) ∙ shorter facts xs i at (omega (arith, e)) front,
        rw tail (weave_step xs ys (take at xs) (take j ys) (drop (i + j) facts) x (rw more at w) (λ f c. pairs-last (IsBefore key number) (take at xs) x f (rw more at (front_ordered xs i h)) c) right),
      )

  -- a fact of the second moves
  pub move_right : (facts xs ys : List F) (i j at k : ℕ) (y : F) → j ≡ at + 1 → k ≡ i + at → k < length facts → j ≤ length ys → IsOrdered key number ys
      → take i facts ≡ take i xs → IsWoven xs ys (take i xs) (take j ys) (drop (i + j) facts) → y ≡ get_or ys at y → ((f : F) → Contains (take i xs) f → IsBefore key number f y)
      → (take i (set facts k y) ≡ take i xs) × IsWoven xs ys (take i xs) (take at ys) (drop (i + at) (set facts k y))
  move_right facts xs ys i j at k y e ke l le h front w is left =
      let more = front_more ys j at y e le is in
      let tail : drop (i + at) (set facts k y) ≡ y ∷ drop (i + j) facts = drop-set_at facts k (i + at) y (sym ke) l ∙ ap (λ n. y ∷ drop n facts) (omega (arith, e, ke)) in
      let turned : IsWoven ys xs (take at ys ++ y ∷ []) (take i xs) (drop (i + j) facts) = swapped xs ys (take i xs) (take at ys ++ y ∷ []) (drop (i + j) facts) (rw more at w) in (
        take-set-le i facts k y (omega (arith, ke)) ∙ front,
        rw tail (swapped ys xs (take at ys) (take i xs) (y ∷ drop (i + j) facts)
            (weave_step ys xs (take at ys) (take i xs) (drop (i + j) facts) y turned (λ f c. pairs-last (IsBefore key number) (take at ys) y f (rw more at (front_ordered ys j h)) c) left)),
      )

  -- both lists are woven
  pub woven : (facts xs ys : List F) (i j : ℕ) → j ≡ 0 → IsOrdered key number xs → take i facts ≡ take i xs → IsWoven xs ys (take i xs) (take j ys) (drop (i + j) facts)
      → IsOrdered key number facts × ((f : F) → Contains facts f ↔ (Contains xs f ⊎ Contains ys f))
  woven facts xs ys i j z h front w =
      let at : i + 0 ≡ i = omega arith in
      let w1 : IsWoven xs ys (take i xs) [] (drop (i + 0) facts) = subst (λ (n : ℕ). IsWoven xs ys (take i xs) (take n ys) (drop (i + n) facts)) z w in
      let w2 : IsWoven xs ys (take i xs) [] (drop i facts) = subst (λ (n : ℕ). IsWoven xs ys (take i xs) [] (drop n facts)) at w1 in
      let w3 : IsWoven xs ys (take i facts) [] (drop i facts) = subst (λ (fs : List F). IsWoven xs ys fs [] (drop i facts)) (sym front) w2 in
      rw take-append-drop at (weave_end xs ys (take i facts) (drop i facts) (rw front (front_ordered xs i h)) w3)

  -- the same front has the same elements
  pub taken_at : (xs ys : List F) (i at : ℕ) (x : F) → at < i → take i xs ≡ take i ys → x ≡ get_or xs at x → x ≡ get_or ys at x
  taken_at xs ys i at x l e is = is ∙ sym (get_or-take i xs at x l) ∙ ap (λ zs. get_or zs at x) e ∙ get_or-take i ys at x l
