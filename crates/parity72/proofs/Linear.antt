-- The product is a sum in each of its factors.
use Rattle.parity72.proofs.Prelude.{◌≡◌, ℕ, zero, suc, ◌+◌, ◌-◌, ◌*◌, ◌/◌, ◌%◌, ◌<◌, ◌≤◌, Bool, true, false, cond, eqb, refl, ap, sym, ◌∙◌, arith, bit_xor, subst, nat_tests, doubled, times, times_bits}
use lib.Bits.{xor_zero_l, xor_zero_r, xor_self, xor_comm, xor_assoc, xor_mod, xor_shr, xor_shifted, xor_block, xor_lt}

pub four : (a b c d : ℕ) → bit_xor (bit_xor a b) (bit_xor c d) ≡ bit_xor (bit_xor a c) (bit_xor b d)
four a b c d =
    xor_assoc a b (bit_xor c d)
    ∙ ap (bit_xor a) (sym (xor_assoc b c d) ∙ ap (λ t. bit_xor t d) (xor_comm b c) ∙ xor_assoc c b d)
    ∙ sym (xor_assoc a c (bit_xor b d))

bit-step : (b r s : ℕ) → r < 2 → s < 2 → cond (eqb (bit_xor r s) 1) b 0 ≡ bit_xor (cond (eqb r 1) b 0) (cond (eqb s 1) b 0)
bit-step b zero zero h k = refl
bit-step b zero (suc zero) h k = sym (xor_zero_l b)
bit-step b (suc zero) zero h k = sym (xor_zero_r b)
bit-step b (suc zero) (suc zero) h k = sym (xor_self b)
bit-step b (suc (suc r)) s h k = absurd (omega arith)
bit-step b r (suc (suc s)) h k = absurd (omega arith)

low-bit : (b x y : ℕ) → cond (eqb (bit_xor x y % 2) 1) b 0 ≡ bit_xor (cond (eqb (x % 2) 1) b 0) (cond (eqb (y % 2) 1) b 0)
low-bit b x y = ap (λ t. cond (eqb t 1) b 0) (xor_mod x y 1) ∙ bit-step b (x % 2) (y % 2) (omega arith) (omega arith)

-- ---- in the second factor, whatever the numbers
times_bits-xor_right : (n b x y : ℕ) → times_bits n b (bit_xor x y) ≡ bit_xor (times_bits n b x) (times_bits n b y)
unfolding times_bits
times_bits-xor_right zero b x y = refl
times_bits-xor_right (suc n) b x y =
    ap (λ t. bit_xor t (times_bits n (doubled b) (bit_xor x y / 2))) (low-bit b x y)
    ∙ ap (λ t. bit_xor (bit_xor (cond (eqb (x % 2) 1) b 0) (cond (eqb (y % 2) 1) b 0)) (times_bits n (doubled b) t)) (xor_shr x y 1)
    ∙ ap (bit_xor (bit_xor (cond (eqb (x % 2) 1) b 0) (cond (eqb (y % 2) 1) b 0))) (times_bits-xor_right n (doubled b) (x / 2) (y / 2))
    ∙ four (cond (eqb (x % 2) 1) b 0) (cond (eqb (y % 2) 1) b 0) (times_bits n (doubled b) (x / 2)) (times_bits n (doubled b) (y / 2))

pub times-xor_right : (b x y : ℕ) → times b (bit_xor x y) ≡ bit_xor (times b x) (times b y)
unfolding times
times-xor_right b x y = times_bits-xor_right 8 b x y

halves : (x : ℕ) → bit_xor (x / 16 * 16) (x % 16) ≡ x
halves x = xor_shifted (x / 16) 4 (x % 16) (omega arith) ∙ omega arith

-- the product by the high and the low half of a byte
pub times-halves : (b x : ℕ) → bit_xor (times b (x % 16)) (times b (x / 16 * 16)) ≡ times b x
times-halves b x =
    xor_comm (times b (x % 16)) (times b (x / 16 * 16))
    ∙ sym (times-xor_right b (x / 16 * 16) (x % 16))
    ∙ ap (times b) (halves x)

-- ---- in the first factor, at bytes
doubled-is : (b : ℕ) → b < 256 → doubled b ≡ bit_xor (b * 2 % 256) (cond (eqb (b / 128) 1) 29 0)
doubled-is b lt = grind (arith, nat_tests, xor_zero_r)

pub doubled-fits : (b : ℕ) → b < 256 → doubled b < 256
doubled-fits b lt =
    let small : cond (eqb (b / 128) 1) 29 0 < 256 = grind (arith, nat_tests) in
    let P : ℕ → Type 0 = λ n. n < 256 in
    subst P (sym (doubled-is b lt)) (xor_lt 8 (b * 2 % 256) (cond (eqb (b / 128) 1) 29 0) (omega arith) small)

shifted-xor : (a b : ℕ) → bit_xor a b * 2 ≡ bit_xor (a * 2) (b * 2)
shifted-xor a b =
    let e : bit_xor (a * 2 + 0) (b * 2 + 0) ≡ bit_xor a b * 2 + bit_xor 0 0 = xor_block 1 a b 0 0 (omega arith) (omega arith) in
    let l : a * 2 + 0 ≡ a * 2 = omega arith in
    let r : b * 2 + 0 ≡ b * 2 = omega arith in
    let m : bit_xor a b * 2 ≡ bit_xor a b * 2 + bit_xor 0 0 = omega arith in
    m ∙ sym e ∙ ap (λ t. bit_xor t (b * 2 + 0)) l ∙ ap (bit_xor (a * 2)) r

pub doubled-xor : (a b : ℕ) → a < 256 → b < 256 → doubled (bit_xor a b) ≡ bit_xor (doubled a) (doubled b)
doubled-xor a b la lb =
    let low : bit_xor a b * 2 % 256 ≡ bit_xor (a * 2 % 256) (b * 2 % 256) = ap (λ t. t % 256) (shifted-xor a b) ∙ xor_mod (a * 2) (b * 2) 8 in
    let carry : cond (eqb (bit_xor a b / 128) 1) 29 0 ≡ bit_xor (cond (eqb (a / 128) 1) 29 0) (cond (eqb (b / 128) 1) 29 0) =
    ap (λ t. cond (eqb t 1) 29 0) (xor_shr a b 7) ∙ bit-step 29 (a / 128) (b / 128) (omega arith) (omega arith) in
    doubled-is (bit_xor a b) (xor_lt 8 a b la lb)
    ∙ ap (λ t. bit_xor t (cond (eqb (bit_xor a b / 128) 1) 29 0)) low
    ∙ ap (bit_xor (bit_xor (a * 2 % 256) (b * 2 % 256))) carry
    ∙ four (a * 2 % 256) (b * 2 % 256) (cond (eqb (a / 128) 1) 29 0) (cond (eqb (b / 128) 1) 29 0)
    ∙ ap (λ t. bit_xor t (bit_xor (b * 2 % 256) (cond (eqb (b / 128) 1) 29 0))) (sym (doubled-is a la))
    ∙ ap (bit_xor (doubled a)) (sym (doubled-is b lb))

cond-xor : (t : Bool) (a b : ℕ) → cond t (bit_xor a b) 0 ≡ bit_xor (cond t a 0) (cond t b 0)
cond-xor true a b = refl
cond-xor false a b = refl

times_bits-xor_left : (n a b x : ℕ) → a < 256 → b < 256 → times_bits n (bit_xor a b) x ≡ bit_xor (times_bits n a x) (times_bits n b x)
unfolding times_bits
times_bits-xor_left zero a b x la lb = refl
times_bits-xor_left (suc n) a b x la lb =
    ap (λ t. bit_xor t (times_bits n (doubled (bit_xor a b)) (x / 2))) (cond-xor (eqb (x % 2) 1) a b)
    ∙ ap (λ t. bit_xor (bit_xor (cond (eqb (x % 2) 1) a 0) (cond (eqb (x % 2) 1) b 0)) (times_bits n t (x / 2))) (doubled-xor a b la lb)
    ∙ ap (bit_xor (bit_xor (cond (eqb (x % 2) 1) a 0) (cond (eqb (x % 2) 1) b 0))) (times_bits-xor_left n (doubled a) (doubled b) (x / 2) (doubled-fits a la) (doubled-fits b lb))
    ∙ four (cond (eqb (x % 2) 1) a 0) (cond (eqb (x % 2) 1) b 0) (times_bits n (doubled a) (x / 2)) (times_bits n (doubled b) (x / 2))

pub times-xor_left : (a b x : ℕ) → a < 256 → b < 256 → times (bit_xor a b) x ≡ bit_xor (times a x) (times b x)
unfolding times
times-xor_left a b x la lb = times_bits-xor_left 8 a b x la lb

cond-fits : (t : Bool) (b : ℕ) → b < 256 → cond t b 0 < 256
cond-fits true b lt = lt
cond-fits false b lt = omega arith

times_bits-fits : (n b x : ℕ) → b < 256 → times_bits n b x < 256
unfolding times_bits
times_bits-fits zero b x lt = omega arith
times_bits-fits (suc n) b x lt =
    xor_lt 8 (cond (eqb (x % 2) 1) b 0) (times_bits n (doubled b) (x / 2)) (cond-fits (eqb (x % 2) 1) b lt) (times_bits-fits n (doubled b) (x / 2) (doubled-fits b lt))

pub times-fits : (b x : ℕ) → b < 256 → times b x < 256
unfolding times
times-fits b x lt = times_bits-fits 8 b x lt

-- ---- the loop that adds the doublings
one-bit : (n sum power rest : ℕ) → bit_xor sum (times_bits (suc n) power rest) ≡ bit_xor (bit_xor sum (cond (eqb (rest % 2) 1) power 0)) (times_bits n (doubled power) (rest / 2))
unfolding times_bits
one-bit n sum power rest = sym (xor_assoc sum (cond (eqb (rest % 2) 1) power 0) (times_bits n (doubled power) (rest / 2)))

no-bits : (sum power rest : ℕ) → bit_xor sum (times_bits 0 power rest) ≡ sum
unfolding times_bits
no-bits sum power rest = xor_zero_r sum

-- the sum that is left to add after n bits, and the sum so far, are the product
abbrev pub LeftToAdd : ℕ → ℕ → ℕ → ℕ → ℕ → ℕ → Type 0
LeftToAdd b x n sum power rest = times b x ≡ bit_xor sum (times_bits (8 - n) power rest)

pub left-first : (b x : ℕ) → LeftToAdd b x 0 0 b x
unfolding times
left-first b x = sym (xor_zero_l (times_bits 8 b x))

left-next : (b x n sum power rest next doubling : ℕ) → LeftToAdd b x n sum power rest → n < 8 → next ≡ bit_xor sum (cond (eqb (rest % 2) 1) power 0) → doubling ≡ doubled power → LeftToAdd b x (n + 1) next doubling (rest / 2)
left-next b x n sum power rest next doubling left lt is twice =
    let m : 8 - n ≡ suc (8 - (n + 1)) = omega arith in
    left
    ∙ ap (λ k. bit_xor sum (times_bits k power rest)) m
    ∙ one-bit (8 - (n + 1)) sum power rest
    ∙ ap (λ s. bit_xor s (times_bits (8 - (n + 1)) (doubled power) (rest / 2))) (sym is)
    ∙ ap (λ p. bit_xor next (times_bits (8 - (n + 1)) p (rest / 2))) (sym twice)

-- the next bit, where it is set
pub left-set : (b x n sum power rest next doubling : ℕ) → LeftToAdd b x n sum power rest → n < 8 → rest % 2 ≡ 1 → next ≡ bit_xor sum power → doubling ≡ doubled power → LeftToAdd b x (n + 1) next doubling (rest / 2)
left-set b x n sum power rest next doubling left lt odd is twice =
    left-next b x n sum power rest next doubling left lt (is ∙ sym (ap (λ t. bit_xor sum (cond (eqb t 1) power 0)) odd)) twice

bit-unset : (r power : ℕ) → (r ≡ 1 → ⊥) → cond (eqb r 1) power 0 ≡ 0
bit-unset r power even = grind (arith, nat_tests)

-- and where it is not
pub left-unset : (b x n sum power rest next doubling : ℕ) → LeftToAdd b x n sum power rest → n < 8 → (rest % 2 ≡ 1 → ⊥) → next ≡ sum → doubling ≡ doubled power → LeftToAdd b x (n + 1) next doubling (rest / 2)
left-unset b x n sum power rest next doubling left lt even is twice =
    left-next b x n sum power rest next doubling left lt (is ∙ sym (ap (bit_xor sum) (bit-unset (rest % 2) power even) ∙ xor_zero_r sum)) twice

pub left-none : (b x n sum power rest : ℕ) → LeftToAdd b x n sum power rest → 8 ≤ n → sum ≡ times b x
left-none b x n sum power rest left le =
    let done : 8 - n ≡ 0 = omega arith in
    sym (left ∙ ap (λ k. bit_xor sum (times_bits k power rest)) done ∙ no-bits sum power rest)
