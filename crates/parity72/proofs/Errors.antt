-- What P and Q tell of the errors, and how the one that is left is solved.
use Rattle.parity72.proofs.Prelude.{◌≡◌, ◌≢◌, ℕ, ◌<◌, ap, sym, ◌∙◌, bit_xor, times, power_of_two, sum_below, weighted}
use lib.Bits.{xor_zero_r, xor_self, xor_assoc}
use Rattle.parity72.proofs.Linear.{four, times-xor_right}
use Rattle.parity72.proofs.Laws.{times-assoc, times-zero, one-times}
use Rattle.parity72.proofs.Sums.{sum-same, sum-xor, sum-one, sum-two}

pub xor-undone_right : (a b : ℕ) → bit_xor (bit_xor a b) b ≡ a
xor-undone_right a b = xor_assoc a b b ∙ ap (bit_xor a) (xor_self b) ∙ xor_zero_r a

-- how far o is from w at i
abbrev pub error : (ℕ → ℕ) → (ℕ → ℕ) → ℕ → ℕ
error o w i = bit_xor (o i) (w i)

pub error-none : (o w : ℕ → ℕ) (i : ℕ) → o i ≡ w i → error o w i ≡ 0
error-none o w i e = ap (λ t. bit_xor t (w i)) e ∙ xor_self (w i)

-- a syndrome is that of the errors, since that of the codeword is 0
syndrome-is : (f g : ℕ → ℕ) (x y : ℕ) → y ≡ sum_below g 7 → bit_xor (sum_below f 7) x ≡ bit_xor (sum_below (λ i. bit_xor (f i) (g i)) 7) (bit_xor x y)
syndrome-is f g x y e =
    sym (ap (λ t. bit_xor t (bit_xor x y)) (sum-xor 7 f g)
    ∙ four (sum_below f 7) (sum_below g 7) x y
    ∙ ap (bit_xor (bit_xor (sum_below f 7) x)) (ap (bit_xor (sum_below g 7)) e ∙ xor_self (sum_below g 7))
    ∙ xor_zero_r (bit_xor (sum_below f 7) x))

-- the sum of the data bytes
abbrev pub plain : (ℕ → ℕ) → ℕ
plain o = sum_below o 7

pub p-errors : (o w : ℕ → ℕ) → w 7 ≡ plain w → bit_xor (plain o) (o 7) ≡ bit_xor (plain (error o w)) (error o w 7)
p-errors o w e = syndrome-is o w (o 7) (w 7) e

pub weighted-errors : (o w : ℕ → ℕ) → bit_xor (weighted o) (weighted w) ≡ weighted (error o w)
weighted-errors o w =
    sym (sum-xor 7 (λ i. times (power_of_two i) (o i)) (λ i. times (power_of_two i) (w i)))
    ∙ sum-same 7 (λ i. bit_xor (times (power_of_two i) (o i)) (times (power_of_two i) (w i))) (λ i. times (power_of_two i) (error o w i))
    (λ i lt. sym (times-xor_right (power_of_two i) (o i) (w i)))

-- ---- where only one data shard or two are wrong
pub plain-one : (d : ℕ → ℕ) (a : ℕ) → a < 7 → ((i : ℕ) → i < 7 → i ≢ a → d i ≡ 0) → plain d ≡ d a
plain-one d a lt h = sum-one 7 d a lt h

term-none : (d : ℕ → ℕ) (i : ℕ) → d i ≡ 0 → times (power_of_two i) (d i) ≡ 0
term-none d i e = ap (times (power_of_two i)) e ∙ times-zero (power_of_two i)

pub weighted-one : (d : ℕ → ℕ) (a : ℕ) → a < 7 → ((i : ℕ) → i < 7 → i ≢ a → d i ≡ 0) → weighted d ≡ times (power_of_two a) (d a)
weighted-one d a lt h = sum-one 7 (λ i. times (power_of_two i) (d i)) a lt (λ i small ne. term-none d i (h i small ne))

pub weighted-two : (d : ℕ → ℕ) (a b : ℕ) → a < 7 → b < 7 → a ≢ b → ((i : ℕ) → i < 7 → i ≢ a → i ≢ b → d i ≡ 0)
    → weighted d ≡ bit_xor (times (power_of_two a) (d a)) (times (power_of_two b) (d b))
weighted-two d a b la lb ne h = sum-two 7 (λ i. times (power_of_two i) (d i)) a b la lb ne (λ i small na nb. term-none d i (h i small na nb))

-- ---- the solution
-- by is 1 / a
pub solved : (a by x : ℕ) → a < 256 → by < 256 → x < 256 → times by a ≡ 1 → times by (times a x) ≡ x
solved a by x la lb lx is = sym (times-assoc by a x lb la lx) ∙ ap (λ t. times t x) is ∙ one-times x lx
