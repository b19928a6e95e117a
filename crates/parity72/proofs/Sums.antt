-- Sums over the shards.
use Rattle.parity72.proofs.Prelude.{◌≡◌, ◌≢◌, ℕ, zero, suc, ◌+◌, ◌-◌, ◌<◌, ◌≤◌, true, ◌||◌, eqb, ltb, refl, ap, sym, ◌∙◌, arith, bit_xor, inl, inr, subst, cases_lt, doubled, times, power_of_two, nat_tests, sum_below, weight_of}
use lib.Bits.{xor_zero_l, xor_zero_r, xor_self, xor_comm, xor_assoc, xor_lt}
use Rattle.parity72.proofs.Linear.{four, doubled-fits, doubled-xor, times-fits}
use Rattle.parity72.proofs.Checks.{all_below, all_below-at}
use Rattle.parity72.proofs.Laws.{two-times, one-times, times-assoc}

pub sum-same : (n : ℕ) (f g : ℕ → ℕ) → ((i : ℕ) → i < n → f i ≡ g i) → sum_below f n ≡ sum_below g n
unfolding sum_below
sum-same zero f g h = refl
sum-same (suc n) f g h =
    ap (λ t. bit_xor t (f n)) (sum-same n f g (λ i lt. h i (omega arith))) ∙ ap (bit_xor (sum_below g n)) (h n (omega arith))

pub sum-xor : (n : ℕ) (f g : ℕ → ℕ) → sum_below (λ i. bit_xor (f i) (g i)) n ≡ bit_xor (sum_below f n) (sum_below g n)
unfolding sum_below
sum-xor zero f g = refl
sum-xor (suc n) f g =
    ap (λ t. bit_xor t (bit_xor (f n) (g n))) (sum-xor n f g) ∙ four (sum_below f n) (sum_below g n) (f n) (g n)

pub sum-fits : (n : ℕ) (f : ℕ → ℕ) → ((i : ℕ) → i < n → f i < 256) → sum_below f n < 256
unfolding sum_below
sum-fits zero f h = omega arith
sum-fits (suc n) f h = xor_lt 8 (sum_below f n) (f n) (sum-fits n f (λ i lt. h i (omega arith))) (h n (omega arith))

-- the first term apart
pub sum-first : (n : ℕ) (f : ℕ → ℕ) → sum_below f (suc n) ≡ bit_xor (f 0) (sum_below (λ i. f (suc i)) n)
unfolding sum_below
sum-first zero f = xor_comm 0 (f 0)
sum-first (suc n) f =
    ap (λ t. bit_xor t (f (suc n))) (sum-first n f) ∙ xor_assoc (f 0) (sum_below (λ i. f (suc i)) n) (f (suc n))

sum-zeros : (n : ℕ) (f : ℕ → ℕ) → ((i : ℕ) → i < n → f i ≡ 0) → sum_below f n ≡ 0
unfolding sum_below
sum-zeros zero f h = refl
sum-zeros (suc n) f h =
    ap (λ t. bit_xor t (f n)) (sum-zeros n f (λ i lt. h i (omega arith))) ∙ ap (bit_xor 0) (h n (omega arith))

-- a sum of which only term a is not 0
pub sum-one : (n : ℕ) (f : ℕ → ℕ) (a : ℕ) → a < n → ((i : ℕ) → i < n → i ≢ a → f i ≡ 0) → sum_below f n ≡ f a
unfolding sum_below
sum-one zero f a lt h = absurd (omega arith)
sum-one (suc n) f a lt h =
    elim (cases_lt a n) [
      | inl l ↦
          let ne : n ≢ a = omega arith in
          ap (λ t. bit_xor t (f n)) (sum-one n f a l (λ i small other. h i (omega arith) other))
          ∙ ap (bit_xor (f a)) (h n (omega arith) ne) ∙ xor_zero_r (f a)
      | inr r ↦
          let e : n ≡ a = omega arith in
          ap (λ t. bit_xor t (f n)) (sum-zeros n f (λ i small. let ne : i ≢ a = omega arith in h i (omega arith) ne))
          ∙ ap f e
    ]

-- a sum of which only the terms a and b are not 0
pub sum-two : (n : ℕ) (f : ℕ → ℕ) (a b : ℕ) → a < n → b < n → a ≢ b → ((i : ℕ) → i < n → i ≢ a → i ≢ b → f i ≡ 0) → sum_below f n ≡ bit_xor (f a) (f b)
unfolding sum_below
sum-two zero f a b la lb ne h = absurd (omega arith)
sum-two (suc n) f a b la lb ne h =
    elim (cases_lt a n) [
      | inl l ↦ elim (cases_lt b n) [
        | inl m ↦
            let na : n ≢ a = omega arith in
            let nb : n ≢ b = omega arith in
            ap (λ t. bit_xor t (f n)) (sum-two n f a b l m ne (λ i small oa ob. h i (omega arith) oa ob))
            ∙ ap (bit_xor (bit_xor (f a) (f b))) (h n (omega arith) na nb) ∙ xor_zero_r (bit_xor (f a) (f b))
        | inr m ↦
            let e : n ≡ b = omega arith in
            ap (λ t. bit_xor t (f n)) (sum-one n f a l (λ i small oa. let ob : i ≢ b = omega arith in h i (omega arith) oa ob))
            ∙ ap (λ j. bit_xor (f a) (f j)) e
      ]
      | inr r ↦
          let e : n ≡ a = omega arith in
          let lbn : b < n = omega arith in
          ap (λ t. bit_xor t (f n)) (sum-one n f b lbn (λ i small ob. let oa : i ≢ a = omega arith in h i (omega arith) oa ob))
          ∙ ap (λ j. bit_xor (f b) (f j)) e ∙ xor_comm (f b) (f a)
    ]

-- ---- Horner's rule
doubled-sum : (n : ℕ) (f : ℕ → ℕ) → ((i : ℕ) → i < n → f i < 256) → sum_below (λ i. doubled (f i)) n ≡ doubled (sum_below f n)
unfolding sum_below
doubled-sum zero f h = refl
doubled-sum (suc n) f h =
    ap (λ t. bit_xor t (doubled (f n))) (doubled-sum n f (λ i lt. h i (omega arith)))
    ∙ sym (doubled-xor (sum_below f n) (f n) (sum-fits n f (λ i lt. h i (omega arith))) (h n (omega arith)))

pub power-fits : (n : ℕ) → power_of_two n < 256
unfolding power_of_two
power-fits zero = omega arith
power-fits (suc n) = doubled-fits (power_of_two n) (power-fits n)

first-term : (x : ℕ) → x < 256 → times (power_of_two 0) x ≡ x
unfolding power_of_two
first-term x lt = one-times x lt

power-next : (n x : ℕ) → x < 256 → times (power_of_two (suc n)) x ≡ doubled (times (power_of_two n) x)
unfolding power_of_two
power-next n x lt =
    ap (λ t. times t x) (sym (two-times (power_of_two n) (power-fits n)))
    ∙ times-assoc 2 (power_of_two n) x (omega arith) (power-fits n) lt
    ∙ two-times (times (power_of_two n) x) (times-fits (power_of_two n) x (power-fits n))

-- the sum of d at i + m, over n of them
abbrev pub sum_from : (ℕ → ℕ) → ℕ → ℕ → ℕ
sum_from d i n = sum_below (λ m. d (i + m)) n

-- the sum of two to the m times d at i + m, over n of them
abbrev pub powers_from : (ℕ → ℕ) → ℕ → ℕ → ℕ
powers_from d i n = sum_below (λ m. times (power_of_two m) (d (i + m))) n

along : (d : ℕ → ℕ) (i m : ℕ) → d (i + suc m) ≡ d (suc i + m)
along d i m = let e : i + suc m ≡ suc i + m = omega arith in ap d e

here : (d : ℕ → ℕ) (i : ℕ) → d (i + 0) ≡ d i
here d i = let e : i + 0 ≡ i = omega arith in ap d e

sum_from-next : (d : ℕ → ℕ) (i n : ℕ) → sum_from d i (suc n) ≡ bit_xor (d i) (sum_from d (suc i) n)
sum_from-next d i n =
    sum-first n (λ m. d (i + m))
    ∙ ap (λ t. bit_xor t (sum_below (λ m. d (i + suc m)) n)) (here d i)
    ∙ ap (bit_xor (d i)) (sum-same n (λ m. d (i + suc m)) (λ m. d (suc i + m)) (λ m lt. along d i m))

-- one term more at the front is a step of Horner's rule: the doubling of the sum, and the term
powers_from-next : (d : ℕ → ℕ) (i n : ℕ) → ((m : ℕ) → i ≤ m → m < i + suc n → d m < 256) → powers_from d i (suc n) ≡ bit_xor (d i) (doubled (powers_from d (suc i) n))
powers_from-next d i n fits =
    sum-first n (λ m. times (power_of_two m) (d (i + m)))
    ∙ ap (λ t. bit_xor t (sum_below (λ m. times (power_of_two (suc m)) (d (i + suc m))) n))
    (first-term (d (i + 0)) (fits (i + 0) (omega arith) (omega arith)) ∙ here d i)
    ∙ ap (bit_xor (d i))
    (sum-same n (λ m. times (power_of_two (suc m)) (d (i + suc m))) (λ m. doubled (times (power_of_two m) (d (suc i + m))))
    (λ m lt. power-next m (d (i + suc m)) (fits (i + suc m) (omega arith) (omega arith)) ∙ ap (λ x. doubled (times (power_of_two m) x)) (along d i m))
    ∙ doubled-sum n (λ m. times (power_of_two m) (d (suc i + m))) (λ m lt. times-fits (power_of_two m) (d (suc i + m)) (power-fits m)))

-- ---- the loops from the last shard down
pub sum_from-down : (n : ℕ) (d : ℕ → ℕ) (i : ℕ) → 0 < i → i ≤ n → sum_from d (i - 1) (n - (i - 1)) ≡ bit_xor (d (i - 1)) (sum_from d i (n - i))
sum_from-down n d i pos le =
    let left : n - (i - 1) ≡ suc (n - i) = omega arith in
    let up : suc (i - 1) ≡ i = omega arith in
    ap (sum_from d (i - 1)) left ∙ sum_from-next d (i - 1) (n - i) ∙ ap (λ j. bit_xor (d (i - 1)) (sum_from d j (n - i))) up

powers_from-down : (d : ℕ → ℕ) (i : ℕ) → 0 < i → i ≤ 7 → ((m : ℕ) → i - 1 ≤ m → m < 7 → d m < 256) → powers_from d (i - 1) (7 - (i - 1)) ≡ bit_xor (d (i - 1)) (doubled (powers_from d i (7 - i)))
powers_from-down d i pos le fits =
    let left : 7 - (i - 1) ≡ suc (7 - i) = omega arith in
    let up : suc (i - 1) ≡ i = omega arith in
    ap (powers_from d (i - 1)) left
    ∙ powers_from-next d (i - 1) (7 - i) (λ m from to. fits m from (omega arith))
    ∙ ap (λ j. bit_xor (d (i - 1)) (doubled (powers_from d j (7 - i)))) up

pub sum_from-none : (d : ℕ → ℕ) → sum_from d 8 (8 - 8) ≡ 0
unfolding sum_below
sum_from-none d = refl

pub sum_from-last : (d : ℕ → ℕ) → sum_from d 6 (7 - 6) ≡ d 6
unfolding sum_below
sum_from-last d = xor_zero_l (d 6)

pub sum_from-all : (n : ℕ) (d : ℕ → ℕ) (i : ℕ) → i ≤ 0 → sum_from d i (n - i) ≡ sum_below d n
sum_from-all n d i le = grind (arith, nat_tests)

powers_from-all : (d : ℕ → ℕ) (i : ℕ) → i ≤ 0 → powers_from d i (7 - i) ≡ sum_below (λ m. times (power_of_two m) (d m)) 7
powers_from-all d i le = grind (arith, nat_tests)

-- what Horner's rule adds by n doublings, where each adds 29
added : ℕ → ℕ
added zero = 0
added (suc n) = bit_xor (doubled (added n)) 29

added-fits : (n : ℕ) → added n < 256
unfolding added
added-fits zero = omega arith
added-fits (suc n) = xor_lt 8 (doubled (added n)) 29 (doubled-fits (added n) (added-fits n)) (omega arith)

added-next : (n : ℕ) → added (suc n) ≡ bit_xor (doubled (added n)) 29
unfolding added
added-next n = refl

-- the sum over the shards from i on by Horner's rule, and what is added to it
pub horner_from : (ℕ → ℕ) → ℕ → ℕ
horner_from d i = bit_xor (powers_from d i (7 - i)) (added (6 - i))

pub horner-last : (d : ℕ → ℕ) → d 6 < 256 → d 6 ≡ horner_from d 6
unfolding horner_from sum_below added
horner-last d lt = sym (xor_zero_r (bit_xor 0 (times (power_of_two 0) (d 6))) ∙ xor_zero_l (times (power_of_two 0) (d 6)) ∙ first-term (d 6) lt)

pub horner-down : (d : ℕ → ℕ) (i q : ℕ) → 0 < i → i ≤ 6 → ((m : ℕ) → i - 1 ≤ m → m < 7 → d m < 256) → q ≡ horner_from d i → bit_xor (d (i - 1)) (bit_xor (doubled q) 29) ≡ horner_from d (i - 1)
unfolding horner_from
horner-down d i q pos le fits is =
    let p = powers_from d i (7 - i) in
    let a = added (6 - i) in
    let p_fits : p < 256 = sum-fits (7 - i) (λ m. times (power_of_two m) (d (i + m))) (λ m lt. times-fits (power_of_two m) (d (i + m)) (power-fits m)) in
    let more : suc (6 - i) ≡ 6 - (i - 1) = omega arith in
    ap (λ q. bit_xor (d (i - 1)) (bit_xor (doubled q) 29)) is
    ∙ ap (λ x. bit_xor (d (i - 1)) (bit_xor x 29)) (doubled-xor p a p_fits (added-fits (6 - i)))
    ∙ ap (bit_xor (d (i - 1))) (xor_assoc (doubled p) (doubled a) 29 ∙ ap (bit_xor (doubled p)) (sym (added-next (6 - i)) ∙ ap added more))
    ∙ sym (xor_assoc (d (i - 1)) (doubled p) (added (6 - (i - 1))))
    ∙ ap (λ x. bit_xor x (added (6 - (i - 1)))) (sym (powers_from-down d i pos (omega arith) fits))

pub horner-all : (d : ℕ → ℕ) (i q : ℕ) → i ≤ 0 → q ≡ horner_from d i → bit_xor q 241 ≡ sum_below (λ m. times (power_of_two m) (d m)) 7
unfolding horner_from added
horner-all d i q le is =
    let z : i ≡ 0 = omega arith in
    let p = powers_from d i (7 - i) in
    ap (λ q. bit_xor q 241) is
    ∙ ap (λ j. bit_xor (bit_xor p (added (6 - j))) 241) z
    ∙ xor_assoc p 241 241 ∙ ap (bit_xor p) (xor_self 241) ∙ xor_zero_r p
    ∙ powers_from-all d i le

-- ---- powers of two that are not 0
powers-apart : all_below (λ i. all_below (λ j. eqb i j || ltb 0 (bit_xor (power_of_two i) (power_of_two j))) 7) 7 ≡ true
unfolding power_of_two
powers-apart = refl

powers-positive : all_below (λ i. ltb 0 (power_of_two i)) 7 ≡ true
unfolding power_of_two
powers-positive = refl

pub power-positive : (i : ℕ) → i < 7 → 0 < power_of_two i
power-positive i lt =
    let h = all_below-at (λ i. ltb 0 (power_of_two i)) 7 powers-positive i lt in
    grind (arith, nat_tests)

pub sum-positive : (i j : ℕ) → i < 7 → j < 7 → i ≢ j → 0 < bit_xor (power_of_two i) (power_of_two j)
sum-positive i j li lj ne =
    let h = all_below-at (λ j. eqb i j || ltb 0 (bit_xor (power_of_two i) (power_of_two j))) 7
    (all_below-at (λ i. all_below (λ j. eqb i j || ltb 0 (bit_xor (power_of_two i) (power_of_two j))) 7) 7 powers-apart i li) j lj in
    grind (arith, nat_tests)

-- ---- what Q multiplies a shard by
pub weight-data : (a : ℕ) → a < 7 → weight_of a ≡ power_of_two a
weight-data a lt = grind (arith, nat_tests)

pub weight-p : (a : ℕ) → 7 ≤ a → weight_of a ≡ 0
weight-p a le = grind (arith, nat_tests)

pub weight-fits : (a : ℕ) → weight_of a < 256
weight-fits a =
    elim (cases_lt a 7) [
      | inl l ↦ subst (λ x. x < 256) (sym (weight-data a l)) (power-fits a)
      | inr r ↦ subst (λ x. x < 256) (sym (weight-p a r)) (omega arith)
    ]

-- two weights are apart
pub weights-positive : (a b : ℕ) → b < 7 → a ≢ b → 0 < bit_xor (weight_of a) (power_of_two b)
weights-positive a b lb ne =
    elim (cases_lt a 7) [
      | inl l ↦ subst (λ x. 0 < bit_xor x (power_of_two b)) (sym (weight-data a l)) (sum-positive a b l lb ne)
      | inr r ↦ subst (λ x. 0 < bit_xor x (power_of_two b)) (sym (weight-p a r)) (subst (λ x. 0 < x) (sym (xor_zero_l (power_of_two b))) (power-positive b lb))
    ]

pub sum-eight : (f : ℕ → ℕ) → sum_below f 8 ≡ bit_xor (sum_below f 7) (f 7)
unfolding sum_below
sum-eight f = refl
