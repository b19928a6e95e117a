-- GF(256) with the polynomial x^8 + x^4 + x^3 + x^2 + 1. A byte is an element, and its bit n is the coefficient of x^n.
-- The sum of two elements is `bit_xor`.
use Rattle.std.specs.Prelude.{ℕ, zero, suc, ◌+◌, ◌/◌, ◌-◌, ◌%◌, ◌==◌, if◌then◌else◌, bit_xor, nat_lt}

-- two times b: b shifted left by one, and x^8, where it appears, replaced by x^4 + x^3 + x^2 + 1, which is 1D
abbrev pub doubled : ℕ → ℕ
doubled b = if nat_lt b 128 then b + b else bit_xor (b + b - 256) 0x1D

-- b times the lowest k bits of x: the sum of the doublings of b at the bits that are set
unfoldable pub times_bits : ℕ → ℕ → ℕ → ℕ
times_bits zero b x = 0
times_bits (suc k) b x = bit_xor (if x % 2 == 1 then b else 0) (times_bits k (doubled b) (x / 2))

-- the product of two bytes
unfoldable pub times : ℕ → ℕ → ℕ
times b x = times_bits 8 b x

-- two to the n
unfoldable pub power_of_two : ℕ → ℕ
power_of_two zero = 1
power_of_two (suc n) = doubled (power_of_two n)
