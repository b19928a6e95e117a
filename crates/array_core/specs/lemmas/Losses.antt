-- Devices that go missing as they lose writes.
use Rattle.std.proofs.Common.{◌≡◌, ◌⊎◌, inl, inr, ℕ, ◌-◌, ◌^◌, ◌<◌, ◌≤◌, Bool, true, false, refl, sym, ◌∙◌, ap, arith}
use Rattle.std.specs.Prelude.{◌||◌, nat_le, nat_lt}
use Rattle.std.proofs.lemmas.Bool.{leb-true, ltb-true, or_cases, or_right}
use Rattle.std.proofs.lemmas.Bool.Decides.{nat_tests}
use Rattle.session_spec.specs.Prelude.{Geometry, Condition, Conditions, Sound, Missing, LeftOut, is_missing, MayBecome, IsWithin, IsBearable, missing_drives, missing_nvrams, slots_of, nvrams, drive, nvram, Shelved, Stop, Continues, IsCountedBy, has_risen, missing_if, not_risen_before}
use Rattle.array_core.specs.Losing.{lost_since, lost_by}
use Rattle.register.proofs.Again.{count_le, missing_still}

-- a count that stays, and isn't at its end, hasn't risen
pub unrisen : (a b : ℕ) → b ≡ a → a < 2 ^ 64 - 1 → has_risen a b ≡ false
unrisen a b same low = grind (arith, nat_tests, has_risen, or_cases, nat_lt, nat_le, ltb-true, leb-true)

-- a sound device later was sound, and lost no write
pub sound_since : (b : Bool) (c : Condition) → missing_if b c ≡ Sound → (c ≡ Sound) × (b ≡ false)
sound_since true Sound e = absurd (cc e)
sound_since false Sound e = (refl, refl)
sound_since b Missing e = absurd (cc e)
sound_since b LeftOut e = absurd (cc e)

-- the more failed, the more is missing
pub more_fail : (a b : Bool) (c : Condition) → (b ≡ false → a ≡ false) → MayBecome (missing_if a c) (missing_if b c)
more_fail true true Sound less = refl
more_fail true false Sound less = absurd (cc (less refl))
more_fail false true Sound less = inr refl
more_fail false false Sound less = inl refl
more_fail a b Missing less = refl
more_fail a b LeftOut less = refl

-- from one moment to a stop after another one
pub by_stop : (old mid : Shelved) (stop : Stop) (missing : Conditions) → IsCountedBy mid stop → IsWithin (lost_since old mid missing) (lost_by old stop missing)
by_stop old mid stop missing counts d = grind (arith, nat_tests, more_fail, has_risen, not_risen_before)

-- ---- one moment after another

-- a count that rose rose before a moment in between or after it
pub risen_or : (a b c : ℕ) → a ≤ b → b ≤ c → has_risen a c ≡ has_risen a b || has_risen b c
risen_or a b c first next = grind (arith, nat_tests)

pub risen_more : (a b c : ℕ) → a ≤ b → b ≤ c → has_risen b c ≡ true → has_risen a c ≡ true
risen_more a b c first next rose = risen_or a b c first next ∙ or_right (has_risen a b) (has_risen b c) rose

missing_or : (c : Condition) (p q : Bool) → missing_if q (missing_if p c) ≡ missing_if (p || q) c
missing_or Sound true q = refl
missing_or Sound false q = refl
missing_or Missing p q = refl
missing_or LeftOut p q = refl

-- what was lost by then and what was lost after it is all that was lost
twice_at : (c : Condition) (x y z : ℕ) → x ≤ y → y ≤ z → missing_if (has_risen y z) (missing_if (has_risen x y) c) ≡ missing_if (has_risen x z) c
twice_at c x y z first next = missing_or c (has_risen x y) (has_risen y z) ∙ ap (λ (b : Bool). missing_if b c) (sym (risen_or x y z first next))

pub lost_twice : {old mid new : Shelved} (missing : Conditions) → Continues old mid → Continues mid new → lost_since mid new (lost_since old mid missing) ≡ lost_since old new missing
lost_twice {old} {mid} {new} missing on after = λ k d. twice_at (missing d) (old.disk d).write_faults (mid.disk d).write_faults (new.disk d).write_faults (on.write_faults d) (after.write_faults d) k

pub lost_twice_by : {old mid : Shelved} {stop : Stop} (missing : Conditions) → Continues old mid → IsCountedBy mid stop → lost_by mid stop (lost_since old mid missing) ≡ lost_by old stop missing
lost_twice_by {old} {mid} {stop} missing on counts = λ k d. twice_at (missing d) (old.disk d).write_faults (mid.disk d).write_faults (stop.write_faults d) (on.write_faults d) (counts.write_faults d) k

-- ---- what is borne

-- where more is borne, less is
pub fewer_borne : (shelf : Geometry) (less more : Conditions) → IsWithin less more → IsBearable shelf more → IsBearable shelf less
fewer_borne shelf less more within bears = grind (arith, nat_tests, count_le, is_missing, drive, slots_of, missing_still, nvrams, nvram)

pub bearable_or_not : (shelf : Geometry) (c : Conditions) → IsBearable shelf c ⊎ (IsBearable shelf c → ⊥)
bearable_or_not shelf c = grind (arith, nat_tests, missing_drives, missing_nvrams, nvrams)
