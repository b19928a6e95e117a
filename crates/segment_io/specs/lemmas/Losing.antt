-- Which drives a call loses, and a run of calls.
use Rattle.std.proofs.Common.{◌≡◌, inl, inr, ℕ, ◌-◌, ◌^◌, ◌<◌, ◌≤◌, Bool, true, false, List, length, Result, Ok, Err, ◌∙◌, ap, arith}
use Rattle.std.specs.Prelude.{is_err, slice_set}
use Rattle.std.proofs.lemmas.Bool.{cases_lt}
use Rattle.std.proofs.lemmas.Bool.Decides.{nat_tests}
use Rattle.std.proofs.lemmas.List.{get_or-set_same, get_or-set_other}
use Rattle.world.specs.Prelude.{drive, drives_apart, Rises, Shelved, Disk, IsShelf, OthersStay, WriteCounts, Continues}
use Rattle.world.specs.declared.streams.Failed.{Failed}
use Rattle.segment_io.specs.Lost.{is_in, SameCounts, LosesOnly}

pub same_counts : (a b : Disk) → b ≡ a → SameCounts a b
same_counts a b e = record { faults = ap (λ (d : Disk). d.faults) e; write_faults = ap (λ (d : Disk). d.write_faults) e }

pub counts_then : {a b c : Disk} → SameCounts a b → SameCounts b c → SameCounts a c
counts_then {a} {b} {c} ab bc = record { faults = bc.faults ∙ ab.faults; write_faults = bc.write_faults ∙ ab.write_faults }

-- a count that rose in one of two runs rose
pub rises_first : (a b c : ℕ) → Rises a b → b ≤ c → c ≤ 2 ^ 64 - 1 → Rises a c
rises_first a b c (inl lt) le most = inl (omega (arith, lt, le))
rises_first a b c (inr end) le most = inr (end.0, omega (arith, end.0, end.1, le, most))

pub rises_then : (a b c : ℕ) → a ≤ b → Rises b c → Rises a c
rises_then a b c le (inl lt) = inl (omega (arith, lt, le))
rises_then a b c le (inr end) = elim (cases_lt a c) [
  | inl lt ↦ inl lt
  | inr ge ↦ inr (omega (arith, end.0, end.1, le, ge), omega (arith, end.0, end.1, le, ge))
]

-- no drive is lost before the first call
pub loses_none : (a : Shelved) (was : List Bool) → LosesOnly a a was was
loses_none a was = grind (arith, nat_tests, same_counts)

-- a drive that isn't lost wasn't
pub not_before : (b c : Shelved) (was now : List Bool) (slot : ℕ) → LosesOnly b c was now → is_in now slot ≡ false → is_in was slot ≡ false
not_before b c was now slot loses none = grind (arith, nat_tests)

-- one run after another
pub loses_then : (a b c : Shelved) (first second third : List Bool) → IsShelf c → Continues a b → Continues b c → LosesOnly a b first second → LosesOnly b c second third → LosesOnly a c first third
loses_then a b c first second third is_c ab bc one two = grind (arith, nat_tests, rises_first, drive, rises_then, counts_then, not_before)

counted : (answer : Result (Unit {0}) Failed) (old new : Disk) → WriteCounts answer old new → is_err answer ≡ false → SameCounts old new
counted (Ok x) old new counts is = record { faults = counts.faults; write_faults = counts.write_faults }
counted (Err x) old new counts is = absurd (cc is)

failed : (answer : Result (Unit {0}) Failed) (old new : Disk) → WriteCounts answer old new → is_err answer ≡ true → Rises old.faults new.faults × Rises old.write_faults new.write_faults
failed (Ok x) old new counts is = absurd (cc is)
failed (Err x) old new counts is = (counts.faults, counts.write_faults)

-- a call on one drive that wasn't lost
pub loses_one : (a b : Shelved) (was : List Bool) (slot : ℕ) (answer : Result (Unit {0}) Failed) (is_lost : Bool) → slot < length was → is_in was slot ≡ false → is_lost ≡ is_err answer
    → OthersStay (drive slot) a b → WriteCounts answer (a.disk (drive slot)) (b.disk (drive slot)) → LosesOnly a b was (slice_set was slot is_lost)
loses_one a b was slot answer is_lost within fresh value others counts = grind (arith, nat_tests, drive, failed, slice_set, counted, same_counts, drives_apart, get_or-set_same, get_or-set_other)
