-- Whether a count has risen, over two runs.
use Rattle.std.proofs.Common.{◌≡◌, ◌≤◌, inl, inr, ℕ, true, false, arith}
use Rattle.std.proofs.lemmas.Bool.Decides.{nat_tests}
use Rattle.world.specs.Counts.{Rises}
use Rattle.world.specs.Losing.{has_risen}

pub not_risen : (a b : ℕ) → has_risen a b ≡ false → Rises a b → ⊥
not_risen a b none (inl lt) = grind (arith, nat_tests)
not_risen a b none (inr end) = grind (arith, nat_tests)

-- a count that hasn't risen over two runs hasn't in either, and one that hasn't in either hasn't over both
pub not_risen_before : (a b c : ℕ) → b ≤ c → has_risen a c ≡ false → has_risen a b ≡ false
not_risen_before a b c le none = grind (arith, nat_tests)

pub not_risen_since : (a b c : ℕ) → a ≤ b → b ≤ c → has_risen a c ≡ false → has_risen b c ≡ false
not_risen_since a b c first next none = grind (arith, nat_tests)

pub not_risen_in_both : (a b c : ℕ) → a ≤ b → b ≤ c → has_risen a b ≡ false → has_risen b c ≡ false → has_risen a c ≡ false
not_risen_in_both a b c first next one two = grind (arith, nat_tests)

-- one that rose in one of the two rose
pub rose_before : (a b c : ℕ) → b ≤ c → has_risen a b ≡ true → has_risen a c ≡ true
rose_before a b c le rose = grind (arith, nat_tests)

pub rose_since : (a b c : ℕ) → a ≤ b → b ≤ c → has_risen b c ≡ true → has_risen a c ≡ true
rose_since a b c first next rose = grind (arith, nat_tests)

pub risen_on_way : (a b c d : ℕ) → a ≤ b → Rises b c → c ≤ d → has_risen a d ≡ false → ⊥
risen_on_way a b c d first (inl lt) next none = grind (arith, nat_tests)
risen_on_way a b c d first (inr end) next none = grind (arith, nat_tests)

pub risen : (a b c d : ℕ) → a ≤ b → Rises b c → c ≤ d → has_risen a d ≡ true
risen a b c d first (inl lt) next = grind (arith, nat_tests)
risen a b c d first (inr end) next = grind (arith, nat_tests)
