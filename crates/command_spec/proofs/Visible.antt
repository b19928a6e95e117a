-- The visible objects as a list by their ids: which pairs it has, and how long it is.
use Rattle.command_spec.proofs.Prelude.{nat_tests, ◌≡◌, ◌≢◌, ℕ, zero, suc, ◌+◌, ◌<◌, ◌≤◌, List, ◌∷◌, ◌++◌, length, refl, ap, ◌∙◌, arith, Option, Some, None, filter_map, Contains, AllPairs, length-append, cons_option, range_with_len, filter_map-append, Facts, objects, object, ObjectFact, of_filter_map, object_is, in_objects}
use Rattle.std.proofs.lemmas.List.Kept.{AllPairs-cons}
use Rattle.pyramid.specs.Prelude.{all_contained}
use Rattle.memory_spec.specs.lemmas.Lists.{of_range}

module _ {X : Type 0} (h : ℕ → Option X) where
  -- of a rising row of numbers, what two of them give
  rising_pairs : (R : X → X → Type 0) (a n : ℕ) → ((i j : ℕ) (x y : X) → i < j → j < a + n → h i ≡ Some x → h j ≡ Some y → R x y) → AllPairs R (filter_map h (range_with_len a n))
  rising_pairs R a zero each = λ i j d less within. absurd (omega (arith, within))
  rising_pairs R a (suc n) each = one (h a) refl (rising_pairs R (a + 1) n (λ i j x y less most p q. each i j x y less (omega (arith, most)) p q))
    where
      one : (o : Option X) → h a ≡ o → AllPairs R (filter_map h (range_with_len (a + 1) n)) → AllPairs R (cons_option o (filter_map h (range_with_len (a + 1) n)))
      one None e rest = rest
      one (Some x) e rest = AllPairs-cons R x (filter_map h (range_with_len (a + 1) n)) (all_contained (R x) (filter_map h (range_with_len (a + 1) n)) (λ y c.
          let w = of_filter_map h (range_with_len (a + 1) n) y c in
          let low = of_range (a + 1) n w.0 w.1 in
          each a w.0 x y (omega (arith, low.0)) (omega (arith, low.1)) e w.2)) rest

  long_cons : (o : Option X) (xs : List X) → length (cons_option o xs) ≤ suc (length xs)
  long_cons None xs = omega arith
  long_cons (Some x) xs = omega arith

  -- each number gives one at most
  at_most : (a n : ℕ) → length (filter_map h (range_with_len a n)) ≤ n
  at_most a zero = omega arith
  at_most a (suc n) =
      let rest = at_most (a + 1) n in
      let first = long_cons (h a) (filter_map h (range_with_len (a + 1) n)) in
      omega (arith, rest, first)

longer : {X : Type 0} (o p : Option X) (xs ys : List X) → (p ≡ None → o ≡ None) → length xs ≤ length ys → length (cons_option o xs) ≤ length (cons_option p ys)
longer None None xs ys none rest = rest
longer None (Some y) xs ys none rest = omega (arith, rest)
longer (Some x) None xs ys none rest = let both = none refl in cc
longer (Some x) (Some y) xs ys none rest = omega (arith, rest)

-- where each number that gives some gave some before, they give no more
no_more : {X : Type 0} (h g : ℕ → Option X) (a n : ℕ) → ((i : ℕ) → i < a + n → g i ≡ None → h i ≡ None) → length (filter_map h (range_with_len a n)) ≤ length (filter_map g (range_with_len a n))
no_more h g a zero each = omega arith
no_more h g a (suc n) each =
    longer (h a) (g a) (filter_map h (range_with_len (a + 1) n)) (filter_map g (range_with_len (a + 1) n)) (λ e. each a (omega arith) e) (no_more h g (a + 1) n (λ i l e. each i (omega (arith, l)) e))

range_split : (a n k : ℕ) → range_with_len a (n + k) ≡ range_with_len a n ++ range_with_len (a + n) k
range_split a zero k = grind (arith, nat_tests)
range_split a (suc n) k =
    let long : suc n + k ≡ suc (n + k) = omega arith in
    let from : a + 1 + n ≡ a + suc n = omega arith in
    ap (λ i. range_with_len a i) long ∙ ap (λ l. a ∷ l) (range_split (a + 1) n k ∙ ap (λ b. range_with_len (a + 1) n ++ range_with_len b k) from)

-- what holds of any two visible objects with different ids holds of each pair
pub objects_apart : (f : Facts) (next : ℕ) (R : ObjectFact → ObjectFact → Type 0)
    → ((x y : ObjectFact) → Contains (objects f next) x → Contains (objects f next) y → x.object.0 ≢ y.object.0 → R x y) → AllPairs R (objects f next)
objects_apart f next R each = rising_pairs (object f) R 0 next (λ i j x y less most p q.
    let first = (object_is f i x p).1 in
    let second = (object_is f j y q).1 in
    each x y (in_objects f next i x p (omega (arith, less, most))) (in_objects f next j y q (omega (arith, most))) (λ e. omega (arith, e, first, second, less)))

-- if each object with an id that was given is one of an id that had one, no more are added than ids
pub objects_few : (old new : Facts) (n k : ℕ) → ((id : ℕ) → id < n → object old id ≡ None → object new id ≡ None) → length (objects new (n + k)) ≤ length (objects old n) + k
objects_few old new n k each = grind (arith, nat_tests, filter_map, range_split, filter_map-append, length, length-append, no_more, at_most)
