-- The members that a view of the devices gives are some of the drives that show the record, and enough of them.
use Rattle.std.proofs.lemmas.Bool.Decides.{nat_tests}
use Rattle.std.proofs.Common.{◌≡◌, ◌⊎◌, inl, inr, ℕ, zero, suc, ◌+◌, ◌<◌, ◌≤◌, List, length, take, drop, refl, sym, ap, subst, ◌∙◌, arith, Bool, true, false, cond}
use Rattle.std.specs.Prelude.{Option, Some, None, IsSome, is_none, count_by, slice_index, option_and_then, if◌then◌else◌}
use Rattle.std.specs.List.{range_with_len}
use Rattle.std.specs.Str.{bytes_eq}
use Rattle.std.specs.Cmp.Lexicographic.{same_text}
use Rattle.std.proofs.lemmas.Bool.{cases_Bool}
use Rattle.std.proofs.lemmas.Slice.Eq.{bytes_eq-Decides}
use Rattle.std.proofs.lemmas.List.{get_or-take, get_or-drop}
use Rattle.boot_codec.specs.Prelude.{zeros, Geometry, Image, View, Condition, Conditions, Sound, Missing, LeftOut, MayShowAs, IsBearable, is_missing, drive, Device, Drive, Nv, spelling, record_bytes, header_bytes, opening_bytes, BootSlot, body_in, body_place, with_body, names, of_members}
use Rattle.boot_codec.specs.declared.record.BootRecord.{BootRecord}
use Rattle.array_spec.specs.Meaning.{AllHold}
use Rattle.array_spec.specs.Standing.{IsViewOf}
use Rattle.array_spec.specs.Unflushed.{NamesSound}
use Rattle.array_spec.specs.lemmas.Votes.{counted, sound_before}
use Rattle.array_spec.specs.lemmas.Standings.{sound_shows}
use Rattle.array_spec.specs.lemmas.UnflushedRead.{was_left_out}
use Rattle.array_spec.specs.Held.{AreSomeOf, AreEnough, NamesNoneLeftOut}

-- ---- blank bytes hold no record

all_zero : (n i : ℕ) → slice_index (zeros n) i ≡ 0
all_zero zero i = refl
all_zero (suc n) zero = refl
all_zero (suc n) (suc i) = all_zero n i

blank : (slot : BootSlot) (n : ℕ) (boot : BootRecord) → body_in slot (zeros n) ≡ spelling boot → ⊥
unfolding record_bytes header_bytes opening_bytes
blank slot n boot e =
    let here : slice_index (spelling boot) 0 ≡ 80 = refl in
    let there : slice_index (take 65536 (drop (body_place slot) (zeros n))) 0 ≡ 0 =
    get_or-take 65536 (drop (body_place slot) (zeros n)) 0 0 (omega arith) ∙ get_or-drop (body_place slot) (zeros n) 0 0 ∙ all_zero n (body_place slot + 0) in
    let same : 0 ≡ 80 = sym there ∙ ap (λ (l : List ℕ). slice_index l 0) e ∙ here in
    omega (arith, same)

-- ---- a drive that the view gives as a member

some_is : {A : Type 0} (x y : A) → Some x ≡ Some y → x ≡ y
some_is x y e = cc

shown_drive : (slot : BootSlot) (boot : BootRecord) (named : Bool) (c : Condition) (bytes : List ℕ) (o : Option (List ℕ)) → MayShowAs c bytes o → (c ≡ LeftOut → named ≡ false)
    → ((if named then option_and_then (with_body slot (spelling boot)) o else None) ≡ None)
    ⊎ ((named ≡ true) × (body_in slot bytes ≡ spelling boot) × ((if named then option_and_then (with_body slot (spelling boot)) o else None) ≡ Some bytes))
shown_drive slot boot false c bytes o m l = inl refl
shown_drive slot boot true c bytes None m l = inl refl
shown_drive slot boot true c bytes (Some other) m l = elim (cases_Bool (bytes_eq (body_in slot other) (spelling boot))) [
  | inr differs ↦ inl (rw differs refl)
  | inl same ↦
      let body : body_in slot other ≡ spelling boot = same_text (body_in slot other) (spelling boot) (sym same) in
      let it : other ≡ bytes = is c m l body in
      inr (refl, subst (λ (b : List ℕ). body_in slot b ≡ spelling boot) it body, rw same (ap (λ (b : List ℕ). Some b) it))
]
  where
    is : (c : Condition) → MayShowAs c bytes (Some other) → (c ≡ LeftOut → true ≡ false) → body_in slot other ≡ spelling boot → other ≡ bytes
    is Sound m l t = some_is other bytes m
    is Missing (inl m) l t = some_is other bytes m
    is Missing (inr (inl m)) l t = absurd (blank slot (length bytes) boot (ap (λ (b : List ℕ). body_in slot b) (sym (some_is other (zeros (length bytes)) m)) ∙ t))
    is Missing (inr (inr m)) l t = absurd (cc m)
    is LeftOut m l t = absurd (cc (l refl))

-- ---- counts

pub fewer_counted : (p q : ℕ → Bool) (a n : ℕ) → ((i : ℕ) → a ≤ i → i < a + n → p i ≡ true → q i ≡ true) → count_by p (range_with_len a n) ≤ count_by q (range_with_len a n)
fewer_counted p q a zero h = omega arith
fewer_counted p q a (suc n) h =
    let rest : count_by p (range_with_len (a + 1) n) ≤ count_by q (range_with_len (a + 1) n) = fewer_counted p q (a + 1) n (λ i le l. h i (omega (arith, le)) (omega (arith, l))) in
    let x = counted p a (range_with_len (a + 1) n) in
    let y = counted q a (range_with_len (a + 1) n) in
    let here : cond (p a) 1 0 ≤ cond (q a) 1 0 = one (p a) (q a) (h a (omega arith) (omega arith)) in
    omega (arith, rest, x, y, here)
  where
    one : (b c : Bool) → (b ≡ true → c ≡ true) → cond b 1 0 ≤ cond c 1 0
    one false c e = omega arith
    one true true e = omega arith
    one true false e = absurd (cc (e refl))

some_not_none : (o : Option (List ℕ)) → IsSome o → is_none o ≡ true → ⊥
some_not_none None s n = absurd (cc s)
some_not_none (Some x) s n = absurd (cc n)

sound_or_missing : (c : Condition) → (c ≡ Sound) ⊎ (is_missing c ≡ true)
sound_or_missing Sound = inl refl
sound_or_missing Missing = inr refl
sound_or_missing LeftOut = inr refl

-- where each device that isn't missing is a member, they are enough
pub enough_hold : (shelf : Geometry) (more : Conditions) (members : View) → IsBearable shelf more → AllHold shelf more members → AreEnough shelf members
enough_hold shelf more members bearable hold = grind (arith, nat_tests, fewer_counted, is_none, drive, is_missing, sound_or_missing, some_not_none)

-- the members that a view gives stand as they are
pub some_shown : (shelf : Geometry) (image : Image) (missing more : Conditions) (slot : BootSlot) (boot : BootRecord) (view : View) → IsViewOf shelf image missing more view
    → ((i : ℕ) → missing (drive i) ≡ LeftOut → names boot (drive i) ≡ false) → AreSomeOf slot boot image (of_members slot boot view)
some_shown shelf image missing more slot boot view v none_left i = grind (arith, nat_tests, shown_drive, names, drive, was_left_out)

module _ (shelf : Geometry) (image : Image) (missing : Conditions) (slot : BootSlot) (boot : BootRecord) (names_sound : NamesSound shelf image missing slot boot)
    (more : Conditions) (view : View) (v : IsViewOf shelf image missing more view) where
  was_sound : (d : Device) → more d ≡ Sound → missing d ≡ Sound
  was_sound d e = sound_before (missing d) (more d) (v.within d) e

  -- each device that isn't missing is a member
  all_members : AllHold shelf more (of_members slot boot view)
  all_members (Drive d) on sound =
      let named : names boot (Drive d) ≡ true = names_sound.named (Drive d) on (was_sound (Drive d) sound) in
      let there : body_in slot (image (Drive d)) ≡ spelling boot = names_sound.written d.0 on (was_sound (Drive d) sound) in
      let same : bytes_eq (body_in slot (image (Drive d))) (spelling boot) ≡ true = (bytes_eq-Decides _ _).1 there in
      rw (named, sound_shows (more (Drive d)) (image (Drive d)) (view (Drive d)) sound (v.shown (Drive d)), same) refl
  all_members (Nv n) on sound =
      let named : names boot (Nv n) ≡ true = names_sound.named (Nv n) on (was_sound (Nv n) sound) in
      rw (named, sound_shows (more (Nv n)) (image (Nv n)) (view (Nv n)) sound (v.shown (Nv n))) refl

  pub are_enough : AreEnough shelf (of_members slot boot view)
  are_enough = enough_hold shelf more (of_members slot boot view) v.bearable all_members

  pub are_some : NamesNoneLeftOut missing boot → AreSomeOf slot boot image (of_members slot boot view)
  are_some none_left = some_shown shelf image missing more slot boot view v (λ i e. none_left (drive i) e)
