-- Pairs of the elements of lists.
use Rattle.std.proofs.Common.{zero, suc, List, [], ◌∷◌, ◌++◌, map, arith, All, AllPairs}
use Rattle.std.specs.List.{flat_map}
use Rattle.std.proofs.lemmas.List.Elements.{All-nil, All-cons, All-head, All-tail, All-append, All-map, All-contains, Contains-append_left, Contains-append_right}
use Rattle.pyramid.specs.Prelude.{all_contained}

module _ {X : Type 0} (P : X → Type 0) where
  pub all_left : (xs ys : List X) → All P (xs ++ ys) → All P xs
  all_left xs ys h = all_contained P xs (λ x c. All-contains P (xs ++ ys) x h (Contains-append_left xs ys x c))

  pub all_right : (xs ys : List X) → All P (xs ++ ys) → All P ys
  all_right xs ys h = all_contained P ys (λ x c. All-contains P (xs ++ ys) x h (Contains-append_right xs ys x c))

  -- what holds of each list's elements
  pub all_flat : (xss : List (List X)) → All (λ xs. All P xs) xss → All P (flat_map (λ xs. xs) xss)
  all_flat [] h = All-nil P
  all_flat (xs ∷ xss) h = All-append P xs (flat_map (λ ys. ys) xss) (All-head (λ ys. All P ys) xs xss h) (all_flat xss (All-tail (λ ys. All P ys) xs xss h))

  pub of_flat : (xss : List (List X)) → All P (flat_map (λ xs. xs) xss) → All (λ xs. All P xs) xss
  of_flat [] h = All-nil (λ xs. All P xs)
  of_flat (xs ∷ xss) h = All-cons (λ ys. All P ys) xs xss (all_left xs (flat_map (λ ys. ys) xss) h) (of_flat xss (all_right xs (flat_map (λ ys. ys) xss) h))

pub all_unmap : {X Y : Type 0} (P : Y → Type 0) (f : X → Y) (xs : List X) → All P (map f xs) → All (λ x. P (f x)) xs
all_unmap P f [] h = All-nil (λ x. P (f x))
all_unmap P f (x ∷ xs) h = All-cons (λ y. P (f y)) x xs (All-head P (f x) (map f xs) h) (all_unmap P f xs (All-tail P (f x) (map f xs) h))

module _ {X : Type 0} (R : X → X → Type 0) where
  pub pairs_nil : AllPairs R []
  pairs_nil i j d l m = absurd (omega (arith, m))

  pub pairs_head : (x : X) (xs : List X) → AllPairs R (x ∷ xs) → All (R x) xs
  pairs_head x xs h k d l = h 0 (suc k) d (omega arith) (omega (arith, l))

  pub pairs_tail : (x : X) (xs : List X) → AllPairs R (x ∷ xs) → AllPairs R xs
  pairs_tail x xs h i j d l m = h (suc i) (suc j) d (omega (arith, l)) (omega (arith, m))

  pub pairs_cons : (x : X) (xs : List X) → All (R x) xs → AllPairs R xs → AllPairs R (x ∷ xs)
  pairs_cons x xs a h i zero d l m = absurd (omega (arith, l))
  pairs_cons x xs a h zero (suc j) d l m = a j d (omega (arith, m))
  pairs_cons x xs a h (suc i) (suc j) d l m = h i j d (omega (arith, l)) (omega (arith, m))

  pub pairs_left : (xs ys : List X) → AllPairs R (xs ++ ys) → AllPairs R xs
  pairs_left [] ys h = pairs_nil
  pairs_left (x ∷ xs) ys h = pairs_cons x xs (all_left (R x) xs ys (pairs_head x (xs ++ ys) h)) (pairs_left xs ys (pairs_tail x (xs ++ ys) h))

  pub pairs_right : (xs ys : List X) → AllPairs R (xs ++ ys) → AllPairs R ys
  pairs_right [] ys h = h
  pairs_right (x ∷ xs) ys h = pairs_right xs ys (pairs_tail x (xs ++ ys) h)

  pub pairs_across : (xs ys : List X) → AllPairs R (xs ++ ys) → All (λ x. All (R x) ys) xs
  pairs_across [] ys h = All-nil (λ x. All (R x) ys)
  pairs_across (x ∷ xs) ys h = All-cons (λ z. All (R z) ys) x xs (all_right (R x) xs ys (pairs_head x (xs ++ ys) h)) (pairs_across xs ys (pairs_tail x (xs ++ ys) h))

  pub pairs_join : (xs ys : List X) → AllPairs R xs → AllPairs R ys → All (λ x. All (R x) ys) xs → AllPairs R (xs ++ ys)
  pairs_join [] ys a b c = b
  pairs_join (x ∷ xs) ys a b c =
      pairs_cons x (xs ++ ys) (All-append (R x) xs ys (pairs_head x xs a) (All-head (λ z. All (R z) ys) x xs c)) (pairs_join xs ys (pairs_tail x xs a) b (All-tail (λ z. All (R z) ys) x xs c))

module _ {X Y : Type 0} (R : Y → Y → Type 0) (f : X → Y) where
  pub pairs_map : (xs : List X) → AllPairs (λ x y. R (f x) (f y)) xs → AllPairs R (map f xs)
  pairs_map [] h = pairs_nil R
  pairs_map (x ∷ xs) h = pairs_cons R (f x) (map f xs) (All-map (R (f x)) f xs (pairs_head (λ a b. R (f a) (f b)) x xs h)) (pairs_map xs (pairs_tail (λ a b. R (f a) (f b)) x xs h))

  pub pairs_unmap : (xs : List X) → AllPairs R (map f xs) → AllPairs (λ x y. R (f x) (f y)) xs
  pairs_unmap [] h = pairs_nil (λ a b. R (f a) (f b))
  pairs_unmap (x ∷ xs) h = pairs_cons (λ a b. R (f a) (f b)) x xs (all_unmap (R (f x)) f xs (pairs_head R (f x) (map f xs) h)) (pairs_unmap xs (pairs_tail R (f x) (map f xs) h))
