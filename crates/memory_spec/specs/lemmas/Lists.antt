-- What holds of lists and of their elements.
use Rattle.std.proofs.Common.{◌≡◌, ◌⊎◌, ℕ, zero, suc, ◌+◌, ◌<◌, ◌≤◌, List, [], ◌∷◌, ◌++◌, length, refl, sym, ap, ◌∙◌, arith, inl, inr, subst, map, slice_get, Option, Some, None, filter_map, Contains, AllPairs, get_or}
use Rattle.std.specs.List.{AllByRecursion, AllZip, range_with_len, cons_option}
use Rattle.std.proofs.lemmas.Bool.{cases_lt, cases_order}
use Rattle.std.proofs.lemmas.List.{get_or_default}
use Rattle.std.proofs.lemmas.Option.{slice_get_past, slice_get_within, get_or_from_slice_get}
use Rattle.std.proofs.lemmas.List.Elements.{All-contains, All-from_recursion, recursion_from_All}
use Rattle.pyramid.specs.Prelude.{here, there, either, nowhere, all_contained}
use Rattle.array_spec.specs.Prelude.{not_both, same_some}

-- ---- each element

pub each_by_recursion : {X : Type 0} (P : X → Type 0) (xs : List X) → ((x : X) → Contains xs x → P x) → AllByRecursion P xs
each_by_recursion P xs h = recursion_from_All P xs (all_contained P xs h)

pub of_each : {X : Type 0} (P : X → Type 0) (xs : List X) (x : X) → AllByRecursion P xs → Contains xs x → P x
of_each P xs x h c = All-contains P xs x (All-from_recursion P xs h) c

-- ---- what is in a list that was made from another one

pub in_map : {X Y : Type 0} (f : X → Y) (xs : List X) (x : X) → Contains xs x → Contains (map f xs) (f x)
in_map f [] x c = absurd (nowhere x c)
in_map f (y ∷ xs) x c = elim (either y x xs c) [
  | inl same ↦ subst (λ z. Contains (f y ∷ map f xs) (f z)) (sym same) (here (f y) (map f xs))
  | inr rest ↦ there (f y) (f x) (map f xs) (in_map f xs x rest)
]

pub of_map : {X Y : Type 0} (f : X → Y) (xs : List X) (y : Y) → Contains (map f xs) y → (x : X) × Contains xs x × (y ≡ f x)
of_map f [] y c = absurd (nowhere y c)
of_map f (x ∷ xs) y c = elim (either (f x) y (map f xs) c) [
  | inl same ↦ (x, here x xs, same)
  | inr rest ↦ (let w = of_map f xs y rest in (w.0, there x w.0 xs w.1, w.2))
]

pub in_filter_map : {X Y : Type 0} (h : X → Option Y) (xs : List X) (x : X) (y : Y) → Contains xs x → h x ≡ Some y → Contains (filter_map h xs) y
in_filter_map h [] x y c e = absurd (nowhere x c)
in_filter_map {X} {Y} h (z ∷ xs) x y c e = elim (either z x xs c) [
  | inl same ↦ subst (λ o. Contains (cons_option o (filter_map h xs)) y) (sym (ap h (sym same) ∙ e)) (here y (filter_map h xs))
  | inr rest ↦ behind (h z) (in_filter_map h xs x y rest e)
]
  where
    behind : (o : Option Y) → Contains (filter_map h xs) y → Contains (cons_option o (filter_map h xs)) y
    behind None d = d
    behind (Some a) d = there a y (filter_map h xs) d

pub of_filter_map : {X Y : Type 0} (h : X → Option Y) (xs : List X) (y : Y) → Contains (filter_map h xs) y → (x : X) × Contains xs x × (h x ≡ Some y)
of_filter_map h [] y c = absurd (nowhere y c)
of_filter_map {X} {Y} h (x ∷ xs) y c = one (h x) refl (λ d. let w = of_filter_map h xs y d in (w.0, there x w.0 xs w.1, w.2)) c
  where
    one : (o : Option Y) → h x ≡ o → (Contains (filter_map h xs) y → (z : X) × Contains (x ∷ xs) z × (h z ≡ Some y)) → Contains (cons_option o (filter_map h xs)) y
        → (z : X) × Contains (x ∷ xs) z × (h z ≡ Some y)
    one None e later d = later d
    one (Some a) e later d = elim (either a y (filter_map h xs) d) [
      | inl same ↦ (x, here x xs, e ∙ ap (λ z. Some z) (sym same))
      | inr rest ↦ later rest
    ]

pub in_range : (a n i : ℕ) → a ≤ i → i < a + n → Contains (range_with_len a n) i
in_range a zero i low high = absurd (omega (arith, low, high))
in_range a (suc n) i low high = elim (cases_lt a i) [
  | inl above ↦ there a i (range_with_len (a + 1) n) (in_range (a + 1) n i (omega (arith, above)) (omega (arith, high)))
  | inr most ↦ (let same : a ≡ i = omega (arith, low, most) in subst (λ z. Contains (a ∷ range_with_len (a + 1) n) z) same (here a (range_with_len (a + 1) n)))
]

pub of_range : (a n i : ℕ) → Contains (range_with_len a n) i → (a ≤ i) × (i < a + n)
of_range a zero i c = absurd (nowhere i c)
of_range a (suc n) i c = elim (either a i (range_with_len (a + 1) n) c) [
  | inl same ↦ (omega (arith, same), omega (arith, same))
  | inr rest ↦ (let w = of_range (a + 1) n i rest in (omega (arith, w.0), omega (arith, w.1)))
]

pub range_more : (a n : ℕ) → range_with_len a (suc n) ≡ range_with_len a n ++ (a + n) ∷ []
range_more a zero = ap (λ k. k ∷ []) (omega arith)
range_more a (suc n) = ap (λ l. a ∷ l) (range_more (a + 1) n ∙ ap (λ k. range_with_len (a + 1) n ++ k ∷ []) (omega arith))

-- ---- place by place

pub zip_append : {X Y : Type 0} (R : X → Y → Type 0) (xs : List X) (ys : List Y) (x : X) (y : Y) → AllZip R xs ys → R x y → AllZip R (xs ++ x ∷ []) (ys ++ y ∷ [])
zip_append R [] [] x y h r = (r, tt)
zip_append R [] (b ∷ ys) x y h r = absurd h
zip_append R (a ∷ xs) [] x y h r = absurd h
zip_append R (a ∷ xs) (b ∷ ys) x y h r = (h.0, zip_append R xs ys x y h.1 r)

pub zip_weaker : {X Y : Type 0} (R S : X → Y → Type 0) → ((x : X) (y : Y) → R x y → S x y) → (xs : List X) (ys : List Y) → AllZip R xs ys → AllZip S xs ys
zip_weaker R S w [] [] h = tt
zip_weaker R S w [] (b ∷ ys) h = h
zip_weaker R S w (a ∷ xs) [] h = h
zip_weaker R S w (a ∷ xs) (b ∷ ys) h = (w a b h.0, zip_weaker R S w xs ys h.1)

-- of the items that are there
pub zip_weaker_in : {X Y : Type 0} (R S : X → Y → Type 0) (xs : List X) (ys : List Y) → ((x : X) (y : Y) → Contains xs x → R x y → S x y) → AllZip R xs ys → AllZip S xs ys
zip_weaker_in R S [] [] w h = tt
zip_weaker_in R S [] (b ∷ ys) w h = h
zip_weaker_in R S (a ∷ xs) [] w h = h
zip_weaker_in R S (a ∷ xs) (b ∷ ys) w h = (w a b (here a xs) h.0, zip_weaker_in R S xs ys (λ x y c r. w x y (there a x xs c) r) h.1)

-- the item of one list at the place of one of the other
pub zip_at : {X Y : Type 0} (R : X → Y → Type 0) (xs : List X) (ys : List Y) (i : ℕ) (y : Y) → AllZip R xs ys → slice_get ys i ≡ Some y → (x : X) × (slice_get xs i ≡ Some x) × R x y
zip_at R [] [] i y h e = absurd (not_both (slice_get [] i) e (slice_get_past [] i (omega arith)))
zip_at R [] (b ∷ ys) i y h e = absurd h
zip_at R (a ∷ xs) [] i y h e = absurd h
zip_at R (a ∷ xs) (b ∷ ys) zero y h e = (a, refl, subst (λ z. R a z) (same_some (Some b) refl e) h.0)
zip_at R (a ∷ xs) (b ∷ ys) (suc i) y h e = zip_at R xs ys i y h.1 e

pub zip_long : {X Y : Type 0} (R : X → Y → Type 0) (xs : List X) (ys : List Y) → AllZip R xs ys → length xs ≡ length ys
zip_long R [] [] h = refl
zip_long R [] (b ∷ ys) h = absurd h
zip_long R (a ∷ xs) [] h = absurd h
zip_long R (a ∷ xs) (b ∷ ys) h = ap suc (zip_long R xs ys h.1)

pub zip_left : {X Y : Type 0} (R : X → Y → Type 0) (xs : List X) (ys : List Y) (i : ℕ) (x : X) → AllZip R xs ys → slice_get xs i ≡ Some x → (y : Y) × (slice_get ys i ≡ Some y) × R x y
zip_left R [] [] i x h e = absurd (not_both (slice_get [] i) e (slice_get_past [] i (omega arith)))
zip_left R [] (b ∷ ys) i x h e = absurd h
zip_left R (a ∷ xs) [] i x h e = absurd h
zip_left R (a ∷ xs) (b ∷ ys) zero x h e = (b, refl, subst (λ z. R z b) (same_some (Some a) refl e) h.0)
zip_left R (a ∷ xs) (b ∷ ys) (suc i) x h e = zip_left R xs ys i x h.1 e

-- what is got from a list is in it
pub contains_at : {X : Type 0} (xs : List X) (i : ℕ) (x : X) → slice_get xs i ≡ Some x → Contains xs x
contains_at xs i x e = (i, slice_get_within xs i x e, get_or_from_slice_get xs i x x e)

-- of two elements that a list keeps apart, or one
pub pairs_of : {X : Type 0} (R : X → X → Type 0) (xs : List X) (x y : X) → AllPairs R xs → Contains xs x → Contains xs y → (x ≡ y) ⊎ (R x y ⊎ R y x)
pairs_of R xs x y h c d = elim (cases_order c.0 d.0) [
  | inl same ↦ inl (sym c.2 ∙ get_or_default xs c.0 x y c.1 ∙ ap (λ i. get_or xs i y) same ∙ d.2)
  | inr either ↦ elim either [
    | inl less ↦ (let at : get_or xs d.0 x ≡ y = get_or_default xs d.0 x y d.1 ∙ d.2 in inr (inl (subst (λ z. R x z) at (subst (λ z. R z (get_or xs d.0 x)) c.2 (h c.0 d.0 x less d.1)))))
    | inr less ↦ (let at : get_or xs c.0 y ≡ x = get_or_default xs c.0 y x c.1 ∙ c.2 in inr (inr (subst (λ z. R y z) at (subst (λ z. R z (get_or xs c.0 y)) d.2 (h d.0 c.0 y less c.1)))))
  ]
]
