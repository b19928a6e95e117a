-- After a store: the record alone is in force, and the devices stand for the array of the log.
use Rattle.register.proofs.Prelude.{nat_tests, ◌≡◌, ◌⊎◌, inl, inr, ℕ, zero, suc, ◌+◌, ◌-◌, ◌^◌, ◌≤◌, ◌<◌, List, [], ◌∷◌, refl, sym, ◌∙◌, ap, subst, arith, Bool, true, false, Contains, slice_index_or, count_by, cond, if◌then◌else◌, range_with_len, Sound, LeftOut, IsBearable, is_missing, drive, nvram, Array, set_count, spelling, slot_of, names, counted, named_sound, Shelved, IsShelf, geometry_of, IsMember, Shows, IsOlder, Register, drives_of, next_slot, Content, StandsInLog, IsOpen, array_of, none_past, cut_in}
use Rattle.nvram_log.specs.Members as nv
use Rattle.register.proofs.Resting.{in_force, stands, alone}

-- ---- counts

abbrev one_if : Bool → ℕ
one_if b = cond b 1 0

one_or_other : (b : Bool) → cond (is_missing (if b then Sound else LeftOut)) 1 0 + cond b 1 0 ≡ 1
one_or_other true = refl
one_or_other false = refl

-- of a range, each is named or not
all_counted : (f : ℕ → Bool) (a n : ℕ) → count_by (λ i. is_missing (if f i then Sound else LeftOut)) (range_with_len a n) + count_by f (range_with_len a n) ≡ n
all_counted f a zero = refl
all_counted f a (suc n) = grind (arith, nat_tests, one_or_other, all_counted f (a + 1) n, counted (λ i. is_missing (if f i then Sound else LeftOut)) a (range_with_len (a + 1) n), counted f a (range_with_len (a + 1) n))

-- flags that are set stand in the range
in_range : (flags : List Bool) (f : ℕ → Bool) (a n : ℕ) → ((i : ℕ) → f (a + i) ≡ slice_index_or flags i false) → ((i : ℕ) → n ≤ i → IsMember flags i → ⊥) → set_count flags ≤ count_by f (range_with_len a n)
in_range [] f a n same none = omega arith
in_range (true ∷ flags) f a zero same none = absurd (none 0 (omega arith) refl)
in_range (false ∷ flags) f a zero same none =
    let rest : set_count flags ≤ count_by f (range_with_len (a + 1) zero) = in_range flags f (a + 1) zero (λ i. let e : a + 1 + i ≡ a + suc i = omega arith in ap f e ∙ same (suc i)) (λ i le m. none (suc i) (omega arith) m) in
    omega (arith, rest, counted (λ b. b) false flags)
in_range (x ∷ flags) f a (suc n) same none =
    let rest : set_count flags ≤ count_by f (range_with_len (a + 1) n) = in_range flags f (a + 1) n (λ i. let e : a + 1 + i ≡ a + suc i = omega arith in ap f e ∙ same (suc i)) (λ i le m. none (suc i) (omega (arith, le)) m) in
    let here : f a ≡ x = let e : a ≡ a + 0 = omega arith in ap f e ∙ same 0 in
    let y = counted f a (range_with_len (a + 1) n) in
    let c : ◌≡◌ {A = ℕ} (cond (f a) 1 0) (cond x 1 0) = ap (λ (b : Bool). one_if b) here in
    omega (arith, rest, c, y, counted (λ b. b) x flags)

one_named : (p : ℕ → Bool) → (p 0 ≡ false) ⊎ (p 1 ≡ false) → count_by p (range_with_len 0 2) ≤ 1
one_named p either = grind (arith, nat_tests, counted p 0 (range_with_len 1 1), counted p 1 (range_with_len 2 0))

in_only : (a : Array) → Contains (a ∷ []) a
in_only a = (0, omega arith, refl)

-- ---- what the record names

pub is_named : (b : Bool) → (if b then Sound else LeftOut) ≡ Sound → b ≡ true
is_named true e = refl
is_named false e = absurd (cc e)

pub is_left : (b : Bool) → (if b then Sound else LeftOut) ≡ LeftOut → b ≡ false
is_left true e = absurd (cc e)
is_left false e = refl

not_missed : (b : Bool) → b ≡ true → is_missing (if b then Sound else LeftOut) ≡ false
not_missed true e = refl
not_missed false e = absurd (cc e)

module _ (shelf : Shelved) (is : IsShelf shelf) (r : Register) (nvrams : List Bool) (held : Content)
    (logged : StandsInLog shelf r nvrams held) (drives : r.record.members.drives ≡ r.drives) (nvrams_are : r.record.members.nvrams ≡ nvrams)
    (enough : r.record.slots ≤ set_count r.drives + 2) (not_spent : r.record.generation < 2 ^ 48 - 8) (some : nv.IsSome nvrams)
    (shown : (i : ℕ) → IsMember (drives_of r) i → Shows shelf (slot_of r.record.generation) (spelling r.record) i)
    (older : (i : ℕ) → IsMember (drives_of r) i → IsOlder shelf (next_slot r.record) (spelling r.record) i) where
  slots_are : r.record.slots ≡ shelf.drives
  slots_are = logged.is_of.lawful.slots

  past_none : (i : ℕ) → shelf.drives ≤ i → IsMember r.record.members.drives i → ⊥
  past_none i le m = none_past r.record.members.drives r.record.slots i logged.is_of.lawful.lawful.members.within (omega (arith, le, slots_are)) m

  -- each drive that is named is one of those on which the record is
  sound_in : (i : ℕ) → named_sound r.record (drive i) ≡ Sound → IsMember (drives_of r) i
  sound_in i s = grind (arith, nat_tests, is_named, names, drive, cut_in, past_none, slots_are)

  nvram_named : (n : ℕ) → names r.record (nvram n) ≡ true → nv.IsMember nvrams n
  nvram_named n e = subst (λ (l : List Bool). nv.IsMember l n) nvrams_are e

  named_nvram : (n : ℕ) → nv.IsMember nvrams n → names r.record (nvram n) ≡ true
  named_nvram n m = subst (λ (l : List Bool). nv.IsMember l n) (sym nvrams_are) m

  bearable : IsBearable (geometry_of shelf) (named_sound r.record)
  bearable =
      let all = all_counted (λ i. slice_index_or r.record.members.drives i false) 0 shelf.drives in
      let set : set_count r.record.members.drives ≤ count_by (λ i. slice_index_or r.record.members.drives i false) (range_with_len 0 shelf.drives) =
      in_range r.record.members.drives (λ i. slice_index_or r.record.members.drives i false) 0 shelf.drives
      (λ i. let e : 0 + i ≡ i = omega arith in ap (λ k. slice_index_or r.record.members.drives k false) e) past_none in
      let as_many : set_count r.record.members.drives ≡ set_count r.drives = ap set_count drives in
      record {
        drives = omega (arith, all, set, as_many, enough, slots_are);
        nvrams = one_named (λ i. is_missing (named_sound r.record (nvram i))) (elim some [
          | inl m ↦ inl (not_missed (names r.record (nvram 0)) (named_nvram 0 m))
          | inr m ↦ inr (not_missed (names r.record (nvram 1)) (named_nvram 1 m))
        ]);
      }

  nv_sound : (n : ℕ) → n < 2 → named_sound r.record (nvram n) ≡ Sound → nv.IsMember nvrams n
  nv_sound n lt e = nvram_named n (is_named (names r.record (nvram n)) e)

  left : (n : ℕ) → named_sound r.record (nvram n) ≡ LeftOut → nv.IsMember nvrams n → ⊥
  left n out m = absurd (cc (is_left (names r.record (nvram n)) out, named_nvram n m))

  no_drive : (i : ℕ) → named_sound r.record (drive i) ≡ LeftOut → names r.record (drive i) ≡ false
  no_drive i out = is_left (names r.record (drive i)) out

  pub is_open : IsOpen shelf r nvrams held
  is_open = record {
    logged = logged;
    drives = drives;
    nvrams_are = nvrams_are;
    bearable = bearable;
    in_force = in_force shelf is r nvrams held (array_of held ∷ []) (in_only (array_of held)) logged nvrams_are not_spent some shown older (named_sound r.record) bearable (λ i lt s. sound_in i s) nv_sound left no_drive;
    older = λ i m s. older i m;
    stands = stands shelf is r nvrams held (array_of held ∷ []) (in_only (array_of held)) logged nvrams_are not_spent some shown older (named_sound r.record) bearable (λ i lt s. sound_in i s) nv_sound left no_drive;
    alone = λ stop slot2 boot2 may g. alone shelf is r nvrams held (array_of held ∷ []) (in_only (array_of held)) logged nvrams_are not_spent some shown older (named_sound r.record) bearable (λ i lt s. sound_in i s) nv_sound left no_drive stop may slot2 boot2 g;
  }
