-- Conditions that worsen.
use Rattle.std.proofs.lemmas.Bool.Decides.{nat_tests}
use Rattle.std.proofs.Common.{◌≡◌, inl, inr, ℕ, ◌+◌, ◌≤◌, List, [], ◌∷◌, refl, arith, cond, Bool, true, false, zero, suc, ◌<◌}
use Rattle.std.specs.Prelude.{count_by}
use Rattle.std.specs.List.{range_with_len}
use Rattle.memory_spec.specs.Prelude.{Device, Geometry, Condition, Conditions, Sound, Missing, LeftOut, MayBecome, IsWithin, IsBearable, IsOn, is_missing, slots_of, nvrams, drive, nvram, counted}
use Rattle.world.specs.Prelude.{missing_if, losing}

pub stays_so : (c : Condition) → MayBecome c c
stays_so Sound = inl refl
stays_so Missing = refl
stays_so LeftOut = refl

-- sound devices may go missing
pub goes : (b : Bool) (c : Condition) → MayBecome c (missing_if b c)
goes true Sound = inr refl
goes false Sound = inl refl
goes b Missing = refl
goes b LeftOut = refl

pub loses : (failed : Device → Bool) (conditions : Conditions) → IsWithin conditions (losing failed conditions)
loses failed conditions d = goes (failed d) (conditions d)

-- what is sound after some went missing was sound
pub sound_once : (b : Bool) (c : Condition) → missing_if b c ≡ Sound → c ≡ Sound
sound_once b Sound e = refl
sound_once b Missing e = absurd (cc e)
sound_once b LeftOut e = absurd (cc e)

pub left_out_once : (b : Bool) (c : Condition) → missing_if b c ≡ LeftOut → c ≡ LeftOut
left_out_once true Sound e = absurd (cc e)
left_out_once false Sound e = absurd (cc e)
left_out_once b Missing e = absurd (cc e)
left_out_once b LeftOut e = refl

pub still_sound : (c : Condition) (failed : Bool) → c ≡ Sound → failed ≡ false → missing_if failed c ≡ Sound
still_sound c failed e f = rw (e, f) refl

pub unlost : (b : Bool) (c : Condition) → b ≡ false → missing_if b c ≡ c
unlost b Sound e = rw e refl
unlost b Missing e = refl
unlost b LeftOut e = refl

-- ---- counting

step : (p q : Bool) (m n : ℕ) → (p ≡ true → q ≡ true) → m ≤ n → cond p 1 0 + m ≤ cond q 1 0 + n
step true true m n f h = omega (arith, h)
step true false m n f h = absurd (cc (f refl))
step false true m n f h = omega (arith, h)
step false false m n f h = omega (arith, h)

count_more : (p q : ℕ → Bool) (xs : List ℕ) → ((x : ℕ) → p x ≡ true → q x ≡ true) → count_by p xs ≤ count_by q xs
count_more p q [] f = omega arith
count_more p q (x ∷ xs) f = omega (arith, counted p x xs, counted q x xs, step (p x) (q x) (count_by p xs) (count_by q xs) (f x) (count_more p q xs f))

-- so far as it holds in a range
count_more_in : (p q : ℕ → Bool) (a n : ℕ) → ((x : ℕ) → a ≤ x → x < a + n → p x ≡ true → q x ≡ true) → count_by p (range_with_len a n) ≤ count_by q (range_with_len a n)
count_more_in p q a zero f = omega arith
count_more_in p q a (suc n) f = omega (
  arith,
  counted p a (range_with_len (a + 1) n),
  counted q a (range_with_len (a + 1) n),
  step (p a) (q a) (count_by p (range_with_len (a + 1) n)) (count_by q (range_with_len (a + 1) n)) (f a (omega arith) (omega arith))
      (count_more_in p q (a + 1) n (λ x low high. f x (omega (arith, low)) (omega (arith, high)))),
)

missing_still : (c d : Condition) → MayBecome c d → is_missing c ≡ true → is_missing d ≡ true
missing_still Sound d w e = absurd (cc e)
missing_still Missing d w e = rw w refl
missing_still LeftOut d w e = rw w refl

-- what can be borne with more missing can be borne
pub borne_before : (shelf : Geometry) (missing more : Conditions) → IsWithin missing more → IsBearable shelf more → IsBearable shelf missing
borne_before shelf missing more w b = grind (arith, nat_tests, count_more, is_missing, drive, slots_of, missing_still, nvrams, nvram)

-- so where each device of the shelf that is missing was missing
pub borne_on : (shelf : Geometry) (after before : Conditions) → ((d : Device) → IsOn shelf d → is_missing (after d) ≡ true → is_missing (before d) ≡ true) → IsBearable shelf before → IsBearable shelf after
borne_on shelf after before f b = grind (arith, nat_tests, count_more_in, is_missing, drive, nvrams, nvram)
