-- The laws of the field. Sums in each factor, the two sides of a law agree at every byte where they agree at the powers of two.
use Rattle.parity72.proofs.Prelude.{◌≡◌, ℕ, zero, suc, ◌-◌, ◌*◌, ◌^◌, ◌<◌, ◌≤◌, Bool, true, eqb, refl, ap, sym, ◌∙◌, arith, bit_xor, inl, inr, pow_mono, cases_lt, doubled, times, times_bits}
use lib.Bits.{xor_zero_r, xor_self, xor_shifted}
use borrow.Author.Tests.{eqb-true}
use Rattle.parity72.proofs.Checks.{all_below, all_below-at}
use Rattle.parity72.proofs.Linear.{times-xor_right, times-xor_left, times-fits}

-- f of a sum of bytes is the sum of what f gives of each
pub record IsAdditive (f : ℕ → ℕ) : Type 0 where
  pub adds : (x y : ℕ) → x < 256 → y < 256 → f (bit_xor x y) ≡ bit_xor (f x) (f y)

additive-zero : (f : ℕ → ℕ) → IsAdditive f → f 0 ≡ 0
additive-zero f h =
    let twice : f 0 ≡ bit_xor (f 0) (f 0) = h.adds 0 0 (omega arith) (omega arith) in
    twice ∙ xor_self (f 0)

power-fits : (n : ℕ) → n < 8 → 2 ^ n < 256
power-fits n lt =
    let le : 2 ^ n ≤ 2 ^ 7 = pow_mono {i = n} {j = 7} (omega arith) in
    omega arith

agree_below : (f g : ℕ → ℕ) → IsAdditive f → IsAdditive g → ((i : ℕ) → i < 8 → f (2 ^ i) ≡ g (2 ^ i)) → (n : ℕ) → n ≤ 8 → (x : ℕ) → x < 2 ^ n → f x ≡ g x
agree_below f g hf hg h zero le x lt =
    let e : x ≡ 0 = omega arith in
    ap f e ∙ additive-zero f hf ∙ sym (additive-zero g hg) ∙ ap g (sym e)
agree_below f g hf hg h (suc n) le x lt =
    elim (cases_lt x (2 ^ n)) [
      | inl l ↦ agree_below f g hf hg h n (omega arith) x l
      | inr r ↦
          let p = power-fits n (omega arith) in
          let two : 2 ^ suc n ≡ 2 * 2 ^ n = omega arith in
          let rest : x - 2 ^ n < 2 ^ n = omega arith in
          let parts : bit_xor (2 ^ n) (x - 2 ^ n) ≡ x =
          ap (λ t. bit_xor t (x - 2 ^ n)) (omega arith) ∙ xor_shifted 1 n (x - 2 ^ n) rest ∙ omega arith in
          ap f (sym parts)
          ∙ hf.adds (2 ^ n) (x - 2 ^ n) p (omega arith)
          ∙ ap (λ t. bit_xor t (f (x - 2 ^ n))) (h n (omega arith))
          ∙ ap (bit_xor (g (2 ^ n))) (agree_below f g hf hg h n (omega arith) (x - 2 ^ n) rest)
          ∙ sym (hg.adds (2 ^ n) (x - 2 ^ n) p (omega arith))
          ∙ ap g parts
    ]

-- two functions that add, and agree at the eight powers of two, agree at every byte
pub additive-agree : (f g : ℕ → ℕ) → IsAdditive f → IsAdditive g → ((i : ℕ) → i < 8 → f (2 ^ i) ≡ g (2 ^ i)) → (x : ℕ) → x < 256 → f x ≡ g x
additive-agree f g hf hg h x lt = agree_below f g hf hg h 8 (omega arith) x lt

-- ---- the product does not depend on the order
unfoldable commutes : ℕ → ℕ → Bool
commutes i j = eqb (times (2 ^ i) (2 ^ j)) (times (2 ^ j) (2 ^ i))

commutes-all : all_below (λ i. all_below (commutes i) 8) 8 ≡ true
unfolding commutes times times_bits
commutes-all = refl

commutes-at : (i j : ℕ) → i < 8 → j < 8 → times (2 ^ i) (2 ^ j) ≡ times (2 ^ j) (2 ^ i)
unfolding commutes
commutes-at i j li lj =
    eqb-true (times (2 ^ i) (2 ^ j)) (times (2 ^ j) (2 ^ i)) (all_below-at (commutes i) 8 (all_below-at (λ i. all_below (commutes i) 8) 8 commutes-all i li) j lj)

by_left : (x : ℕ) → IsAdditive (λ b. times b x)
by_left x = record { adds = λ a b la lb. times-xor_left a b x la lb }

by_right : (b : ℕ) → IsAdditive (times b)
by_right b = record { adds = λ x y lx ly. times-xor_right b x y }

pub times-comm : (a b : ℕ) → a < 256 → b < 256 → times a b ≡ times b a
times-comm a b la lb =
    additive-agree (λ a. times a b) (times b) (by_left b) (by_right b)
    (λ i li. additive-agree (times (2 ^ i)) (λ b. times b (2 ^ i)) (by_right (2 ^ i)) (by_left (2 ^ i)) (λ j lj. commutes-at i j li lj) b lb)
    a la

-- ---- nor on the grouping
unfoldable associates : ℕ → ℕ → ℕ → Bool
associates i j k = eqb (times (times (2 ^ i) (2 ^ j)) (2 ^ k)) (times (2 ^ i) (times (2 ^ j) (2 ^ k)))

associates-all : all_below (λ i. all_below (λ j. all_below (associates i j) 8) 8) 8 ≡ true
unfolding associates times times_bits
associates-all = refl

associates-at : (i j k : ℕ) → i < 8 → j < 8 → k < 8 → times (times (2 ^ i) (2 ^ j)) (2 ^ k) ≡ times (2 ^ i) (times (2 ^ j) (2 ^ k))
unfolding associates
associates-at i j k li lj lk =
    eqb-true (times (times (2 ^ i) (2 ^ j)) (2 ^ k)) (times (2 ^ i) (times (2 ^ j) (2 ^ k))) (all_below-at (associates i j) 8 (all_below-at (λ j. all_below (associates i j) 8) 8 (all_below-at (λ i. all_below (λ j. all_below (associates i j) 8) 8) 8 associates-all i li) j lj) k lk)

pub times-assoc : (a b c : ℕ) → a < 256 → b < 256 → c < 256 → times (times a b) c ≡ times a (times b c)
times-assoc a b c la lb lc =
    additive-agree (λ a. times (times a b) c) (λ a. times a (times b c))
    (record { adds = λ x y lx ly. ap (λ t. times t c) (times-xor_left x y b lx ly) ∙ times-xor_left (times x b) (times y b) c (times-fits x b lx) (times-fits y b ly) })
    (by_left (times b c))
    (λ i li. additive-agree (λ b. times (times (2 ^ i) b) c) (λ b. times (2 ^ i) (times b c))
    (record { adds = λ x y lx ly. ap (λ t. times t c) (times-xor_right (2 ^ i) x y) ∙ times-xor_left (times (2 ^ i) x) (times (2 ^ i) y) c (times-fits (2 ^ i) x (power-fits i li)) (times-fits (2 ^ i) y (power-fits i li)) })
    (record { adds = λ x y lx ly. ap (times (2 ^ i)) (times-xor_left x y c lx ly) ∙ times-xor_right (2 ^ i) (times x c) (times y c) })
    (λ j lj. additive-agree (λ c. times (times (2 ^ i) (2 ^ j)) c) (λ c. times (2 ^ i) (times (2 ^ j) c))
    (by_right (times (2 ^ i) (2 ^ j)))
    (record { adds = λ x y lx ly. ap (times (2 ^ i)) (times-xor_right (2 ^ j) x y) ∙ times-xor_right (2 ^ i) (times (2 ^ j) x) (times (2 ^ j) y) })
    (λ k lk. associates-at i j k li lj lk) c lc)
    b lb)
    a la

-- ---- one, zero and the doubling
pub times-one : (b : ℕ) → times b 1 ≡ b
unfolding times times_bits
times-one b = xor_zero_r b

pub times-zero : (b : ℕ) → times b 0 ≡ 0
unfolding times times_bits
times-zero b = refl

pub one-times : (b : ℕ) → b < 256 → times 1 b ≡ b
one-times b lt = times-comm 1 b (omega arith) lt ∙ times-one b

times-two_right : (b : ℕ) → times b 2 ≡ doubled b
unfolding times times_bits
times-two_right b = xor_zero_r (doubled b)

pub two-times : (b : ℕ) → b < 256 → times 2 b ≡ doubled b
two-times b lt = times-comm 2 b (omega arith) lt ∙ times-two_right b

-- ---- the inverse
-- what two bytes give when the second is undone
pub times-undone : (a i b : ℕ) → a < 256 → i < 256 → b < 256 → times i b ≡ 1 → times (times a i) b ≡ a
times-undone a i b la li lb h = times-assoc a i b la li lb ∙ ap (times a) h ∙ times-one a

-- only one byte times b is a
pub quotient-only : (q a i b : ℕ) → q < 256 → i < 256 → b < 256 → times i b ≡ 1 → times q b ≡ a → q ≡ times a i
quotient-only q a i b lq li lb h e =
    sym (times-undone q b i lq lb li (times-comm b i lb li ∙ h)) ∙ ap (λ t. times t i) e
