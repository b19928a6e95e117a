-- Who is a member no longer failed, and who still is lost no write.
use Rattle.nvram_log.proofs.Prelude.{nat_tests, ◌≡◌, ◌⊎◌, inl, inr, ℕ, ◌≤◌, ◌<◌, Bool, List, length, arith, nvram, Rises, Continues, Shelved, IsMember, LosesOnlyFailed, Outcome}
use Rattle.nvram_log.proofs.Storing.{member_below}

-- a count that rose on the way rose
pub rises_between : (a b c d : ℕ) → a ≤ b → Rises b c → c ≤ d → Rises a d
rises_between a b c d ab (inl lt) cd = inl (omega (arith, ab, lt, cd))
rises_between a b c d ab (inr full) cd = grind (arith, nat_tests)

still_or_rose : {was is now : Type 0} (a b c : ℕ) → a ≤ b → b ≤ c → (was → is ⊎ Rises a b) → (is → now ⊎ Rises b c) → was → now ⊎ Rises a c
still_or_rose a b c ab bc first next was = grind (arith, nat_tests, rises_between)

-- from what a call left of each device
pub loses_each : {honest : Type 0} {holds : ℕ → Type 0} (old new : Shelved) (was now : List Bool) → length now ≡ 2
    → ((n : ℕ) → n < 2 → Outcome honest (IsMember was n) (IsMember now n) (holds n) (old.disk (nvram n)) (new.disk (nvram n))) → LosesOnlyFailed old new was now
loses_each {honest} {holds} old new was now two outcome = grind (arith, nat_tests, member_below)

-- one run after another
pub loses_then : {a b c : Shelved} {was mid now : List Bool} → Continues a b → Continues b c → LosesOnlyFailed a b was mid → LosesOnlyFailed b c mid now → LosesOnlyFailed a c was now
loses_then {a} {b} {c} {was} {mid} {now} ab bc first next = grind (arith, nat_tests, still_or_rose, nvram)
