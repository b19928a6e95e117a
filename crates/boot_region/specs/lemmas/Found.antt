-- What was loaded from the boot units is in force in a view of the whole drives.
use Rattle.std.proofs.lemmas.Bool.Decides.{nat_tests}
use Rattle.std.proofs.Common.{◌≡◌, inl, inr, ℕ, zero, suc, ◌+◌, ◌-◌, ◌*◌, ◌<◌, ◌≤◌, ◌&&◌, Bool, true, false, if◌then◌else◌, List, [], ◌∷◌, map, take, drop, Option, Some, None, option_and_then, slice_index_or, sym, ◌∙◌, ap, subst, arith, refl, Result, Ok, Err, IfOk}
use Rattle.std.specs.List.{range_with_len}
use Rattle.std.specs.Prelude.{◌==◌}
use Rattle.std.proofs.lemmas.Bool.{cases_lt, cases_Bool}
use Rattle.std.proofs.lemmas.List.{drop-take, get_or-take, get_or_past}
use Rattle.array_spec.specs.Prelude.{bytes_at, is_open, Array, Geometry, View, Conditions, Condition, Sound, Missing, LeftOut, is_sound, MayBecome, drive, Device, Drive, Nv, BootSlot, A, B, other_slot, IsRecordOf, IsEffective, IsDecided, votes, shown_by, body_in, body_place, gate_place, spelling, MayBeGiven}
use Rattle.world.specs.Prelude.{geometry_of, Shelved, Stop, IsShelf, IsSame, Continues, MayStop, as_read}
use Rattle.boot_region.specs.declared.loading.Loaded.{Loaded}
use Rattle.boot_region.specs.declared.loading.LoadFault.{LoadFault}
use Rattle.boot_region.specs.Members.{IsMember}
use Rattle.boot_region.specs.Slots.{slot_in}
use Rattle.boot_region.specs.Regions.{region_at, seen, is_holding, is_body_in}
use Rattle.boot_region.specs.Loading.{IsGiven, IsLoadBy, IsLoadOf, TellsHolding, MayBeSettled}
use Rattle.boot_region.specs.Storing.{StandsNow, IsLoaded, IsFound, IsSeen}
use Rattle.std.specs.Cmp.Lexicographic.{same_text}

-- ---- what the first three units show

take_of_front : (n m : ℕ) (xs : List ℕ) → n ≤ m → take n (take m xs) ≡ take n xs
take_of_front zero m xs le = refl
take_of_front (suc n) zero xs le = absurd (omega (arith, le))
take_of_front (suc n) (suc m) [] le = refl
take_of_front (suc n) (suc m) (x ∷ xs) le = ap (λ (l : List ℕ). x ∷ l) (take_of_front n m xs (omega (arith, le)))

-- a part of a front
pub part_of_front : (p n r : ℕ) (xs : List ℕ) → p + n ≤ r → bytes_at p n (bytes_at 0 r xs) ≡ bytes_at p n xs
part_of_front p n r xs fits =
    ap (λ (k : ℕ). take n (drop p (take k xs))) (let e : r ≡ p + (r - p) = omega (arith, fits) in e)
    ∙ ap (take n) (drop-take p (r - p) xs) ∙ take_of_front n (r - p) (drop p xs) (omega (arith, fits))

gate_below : (slot : BootSlot) → gate_place slot < 196608
gate_below A = omega arith
gate_below B = omega arith

body_within : (slot : BootSlot) → body_place slot + 65536 ≤ 196608
body_within A = omega arith
body_within B = omega arith

pub same_body : (slot : BootSlot) (xs : List ℕ) → body_in slot (bytes_at 0 196608 xs) ≡ body_in slot xs
same_body slot xs = part_of_front (body_place slot) 65536 196608 xs (body_within slot)

pub same_open : (slot : BootSlot) (xs : List ℕ) → is_open (gate_place slot) (bytes_at 0 196608 xs) ≡ is_open (gate_place slot) xs
same_open slot xs = ap (λ (n : ℕ). n == 1) (get_or-take 196608 xs (gate_place slot) 0 (gate_below slot))

pub same_shown : (slot : BootSlot) (xs : List ℕ) → shown_by slot (bytes_at 0 196608 xs) ≡ shown_by slot xs
same_shown slot xs =
    ap (λ (b : Bool). if b then Some (body_in slot (bytes_at 0 196608 xs)) else None) (same_open slot xs)
    ∙ ap (λ (body : List ℕ). if is_open (gate_place slot) xs then Some body else None) (same_body slot xs)

-- the same votes make the same list
pub same_over : {X : Type 0} (f g : ℕ → X) (a n : ℕ) → ((i : ℕ) → i < a + n → f i ≡ g i) → map f (range_with_len a n) ≡ map g (range_with_len a n)
same_over f g a zero same = refl
same_over f g a (suc n) same =
    let rest = same_over f g (a + 1) n (λ i lt. same i (omega (arith, lt))) in
    ap (λ (x : _). x ∷ map f (range_with_len (a + 1) n)) (same a (omega arith)) ∙ ap (λ (l : List _). g a ∷ l) rest

module _ (old new : Shelved) (x : Loaded) (missing : Conditions) (shelf_old : IsShelf old) (shelf_new : IsShelf new) (h : old.honest) (h_new : new.honest)
    (drives : new.drives ≡ old.drives) (units : new.units ≡ old.units) (same : (d : Device) → IsSame (old.disk d) (new.disk d))
    (by : IsLoadBy old new (Ok x)) (tells : TellsHolding new x.drives missing) where
  abbrev slot : BootSlot
  slot = slot_in x.slot

  abbrev body : List ℕ
  body = spelling x.record

  abbrev given : IsGiven (geometry_of old) by.bytes by.answered x
  given = by.answer

  same_geometry : geometry_of old ≡ geometry_of new
  same_geometry = ap (λ (n : ℕ). record { slots = n; units = old.units }) (sym drives) ∙ ap (λ (n : ℕ). record { slots = new.drives; units = n }) (sym units)

  both_true : (a b : Bool) → (a && b) ≡ true → (a ≡ true) × (b ≡ true)
  both_true true true e = (refl, refl)
  both_true true false e = absurd (cc e)
  both_true false b e = absurd (cc e)

  -- a member holds the body in its region
  held_in : (i : ℕ) → IsMember x.drives i → is_body_in slot body (region_at by.bytes by.answered i) ≡ true
  unfolding is_holding
  held_in i member = (both_true (slice_index_or x.record.members.drives i false) (is_holding by.bytes by.answered slot body i) (sym (given.held.drives_are i) ∙ member)).1

  no_region : (i : ℕ) → slice_index_or by.answered i false ≡ false → region_at by.bytes by.answered i ≡ None
  unfolding region_at
  no_region i none = ap (λ (b : Bool). if b then Some (bytes_at (196608 * i) 196608 by.bytes) else None) none

  pub drive_below : (i : ℕ) → IsMember x.drives i → i < old.drives
  drive_below i member = elim (cases_lt i old.drives) [
    | inl lt ↦ lt
    | inr ge ↦ absurd (cc (ap (is_body_in slot body) (no_region i (get_or_past by.answered i false (omega (arith, ge, by.all)))), held_in i member))
  ]

  -- so it answered with what stands on it
  region_of : (i : ℕ) → i < old.drives → IsMember x.drives i → region_at by.bytes by.answered i ≡ Some (bytes_at 0 196608 (new.disk (drive i)).bytes)
  region_of i lt member = elim (by.read i lt) [
    | inl read ↦ read ∙ ap (λ (l : List ℕ). Some (bytes_at 0 196608 l)) (sym (same (drive i)).bytes)
    | inr none ↦ absurd (cc (ap (is_body_in slot body) none.0, held_in i member))
  ]

  pub body_stands : (i : ℕ) → i < old.drives → IsMember x.drives i → body_in slot (new.disk (drive i)).bytes ≡ body
  body_stands i lt member =
      let stands : is_body_in slot body (Some (bytes_at 0 196608 (new.disk (drive i)).bytes)) ≡ true = subst (λ (o : Option (List ℕ)). is_body_in slot body o ≡ true) (region_of i lt member) (held_in i member) in
      sym (same_body slot (new.disk (drive i)).bytes) ∙ same_text (body_in slot (bytes_at 0 196608 (new.disk (drive i)).bytes)) body (sym stands)

  -- at a stop
  module _ (start : Stop) (may : MayStop new start) where
    -- a drive that isn't sound shows what it answered
    unsound : View
    unsound (Drive d) = if slice_index_or by.answered d.0 false then Some (new.disk (Drive d)).bytes else None
    unsound (Nv n) = None

    view : View
    view d = if is_sound (missing d) then Some (start.image d) else unsound d

    view_sound : (d : Device) → missing d ≡ Sound → view d ≡ Some (start.image d)
    unfolding view
    view_sound d sound = ap (λ (c : Condition). if is_sound c then Some (start.image d) else unsound d) sound

    view_unsound : (d : Device) → is_sound (missing d) ≡ false → view d ≡ unsound d
    unfolding view
    view_unsound d not_sound = ap (λ (b : Bool). if b then Some (start.image d) else unsound d) not_sound

    clean_image : (i : ℕ) → IsMember x.drives i → missing (drive i) ≡ Sound → start.image (drive i) ≡ (new.disk (drive i)).bytes
    clean_image i member sound = as_read (new.disk (drive i)) (start.image (drive i)) (tells.clean i member sound) (may.device (drive i))

    is_sound_of : (c : Condition) → is_sound c ≡ true → c ≡ Sound
    is_sound_of Sound e = refl
    is_sound_of Missing e = absurd (cc e)
    is_sound_of LeftOut e = absurd (cc e)

    -- what an unsound drive shows, its region shows
    unsound_shows : (t : BootSlot) (i : ℕ) → i < old.drives → (b : Bool) → slice_index_or by.answered i false ≡ b
        → option_and_then (shown_by t) (if b then Some (new.disk (drive i)).bytes else None) ≡ option_and_then (shown_by t) (region_at by.bytes by.answered i)
    unfolding region_at
    unsound_shows t i lt true answered = elim (by.read i lt) [
      | inl read ↦ sym (ap (option_and_then (shown_by t)) (read ∙ ap (λ (l : List ℕ). Some (bytes_at 0 196608 l)) (sym (same (drive i)).bytes)) ∙ same_shown t (new.disk (drive i)).bytes)
      | inr none ↦ absurd (cc (none.0, ap (λ (b : Bool). if b then Some (bytes_at (196608 * i) 196608 by.bytes) else None) answered))
    ]
    unsound_shows t i lt false answered = sym (ap (λ (b : Bool). option_and_then (shown_by t) (if b then Some (bytes_at (196608 * i) 196608 by.bytes) else None)) answered)

    same_vote : (t : BootSlot) (i : ℕ) → i < old.drives → option_and_then (shown_by t) (view (drive i)) ≡ option_and_then (shown_by t) (region_at by.bytes by.answered i)
    unfolding unsound
    same_vote t i lt = elim (cases_Bool (is_sound (missing (drive i)))) [
      | inl is ↦
          let sound = is_sound_of (missing (drive i)) is in
          let member = tells.holding i (omega (arith, lt, drives)) sound in
          ap (option_and_then (shown_by t)) (view_sound (drive i) sound ∙ ap (λ (l : List ℕ). Some l) (clean_image i member sound))
          ∙ sym (ap (option_and_then (shown_by t)) (region_of i lt member) ∙ same_shown t (new.disk (drive i)).bytes)
      | inr is ↦ ap (option_and_then (shown_by t)) (view_unsound (drive i) is) ∙ unsound_shows t i lt (slice_index_or by.answered i false) refl
    ]

    same_votes : (t : BootSlot) → votes (geometry_of old) view t ≡ votes (geometry_of old) (seen by.bytes by.answered) t
    same_votes t = same_over (λ (i : ℕ). option_and_then (shown_by t) (view (drive i))) (λ (i : ℕ). option_and_then (shown_by t) (region_at by.bytes by.answered i)) 0 old.drives (λ i lt. same_vote t i (omega (arith, lt)))

    view_gives : IsEffective (geometry_of old) view slot body
    view_gives = record {
      decided = subst (λ (v : List (Option (List ℕ))). IsDecided v body) (sym (same_votes slot)) given.held.effective.decided;
      highest = λ other decided. given.held.effective.highest other (subst (λ (v : List (Option (List ℕ))). IsDecided v other) (same_votes (other_slot slot)) decided);
    }

    pub is_seen : IsSeen (geometry_of new) start.image missing slot x.record
    is_seen = record { view = view; shown = view_sound; effective = subst (λ (g : Geometry). IsEffective g view slot body) same_geometry view_gives }

  within_itself : (c : Condition) → MayBecome c c
  within_itself Sound = inl refl
  within_itself Missing = refl
  within_itself LeftOut = refl

  pub may_be_given : (start : Stop) → MayStop new start → MayBeGiven (geometry_of new) start.image missing slot x.record
  may_be_given start may =
      let s = is_seen start may in
      record {
        more = missing;
        view = s.view;
        appears = record { within = λ d. within_itself (missing d); bearable = tells.bearable; shown = s.shown };
        lawful = subst (λ (g : Geometry). IsRecordOf g x.record) same_geometry given.held.lawful;
        effective = s.effective;
      }

  pub is_found : IsFound new x.drives missing slot x.record
  is_found = record { sound = tells.holding; seen = is_seen }

  pub is_loaded : (arrays : List Array) → StandsNow new missing arrays → IsLoaded new x.drives missing slot x.record arrays
  is_loaded arrays stands = grind (arith, nat_tests, same_geometry, body_stands, drive_below, may_be_given)

-- whatever was loaded
pub may_be_settled : (old new : Shelved) (result : Result Loaded LoadFault) → IsShelf old → IsShelf new → old.honest → Continues old new → ((d : Device) → IsSame (old.disk d) (new.disk d))
    → IsLoadOf old new result → IfOk result (λ x. MayBeSettled new x)
may_be_settled old new (Ok x) shelf_old shelf_new h continues same by = λ missing arrays tells stands. (
  is_loaded old new x missing shelf_old shelf_new h (continues.honest h) continues.drives continues.units same by tells arrays stands,
  is_found old new x missing shelf_old shelf_new h (continues.honest h) continues.drives continues.units same by tells,
)
may_be_settled old new (Err e) shelf_old shelf_new h continues same by = tt
