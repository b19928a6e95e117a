-- What is loaded, where the devices stand for arrays: the record that each device that isn't missing holds.
use Rattle.takeover.proofs.Prelude.{nat_tests, ◌≡◌, inl, inr, ℕ, ◌*◌, ◌<◌, Bool, true, false, List, [], length, Option, Some, None, option_and_then, slice_index_or, sym, ◌∙◌, ap, subst, arith, refl, if◌then◌else◌, cases_Bool, and_from, bytes_eq-Decides, same_text, bytes_at, Array, Geometry, Image, View, Condition, Conditions, Sound, is_sound, IsBearable, MayShowAs, drive, Device, Drive, Nv, BootRecord, BootSlot, other_slot, Effective, IsEffective, IsDecided, votes, shown_by, body_in, names, of_members, with_body, spelling, IsInForce, Stands, MayBeGiven, MayAppear, IsViewOf, IsReadBy, more_may_go_missing, geometry_of, has_risen, Shelved, Stop, Disk, IsShelf, IsSame, Continues, MayStop, MayLeave, as_read, Enters, failed_since, read_now, risen_on_way, IsMember, region_at, seen, is_holding, is_body_in, IsRead, IsHeld, losing_within, same_body, same_shown, same_over, sound_since}
use Rattle.std.proofs.Common.{IsSome, bytes_eq}
use Rattle.boot_region.proofs.Composing.{as_it_is, is_sound_is}

pub shows_now : (c : Condition) (bytes : List ℕ) → MayShowAs c bytes (if is_sound c then Some bytes else None)
shows_now c bytes = grind (arith, nat_tests)

pub is_named : (b : Bool) (o : Option (List ℕ)) → IsSome (if b then o else None) → b ≡ true
is_named true o some = refl
is_named false o some = absurd (cc some)

-- the same image at another time
abbrev pub at_time : Shelved → Image → Stop
at_time shelf image = record { image = image; faults = λ d. (shelf.disk d).faults; write_faults = λ d. (shelf.disk d).write_faults; output = shelf.output; taken = shelf.taken }

pub may_at_time : (shelf : Shelved) (image : Image) → ((d : Device) → MayLeave (shelf.disk d) (image d)) → MayStop shelf (at_time shelf image)
may_at_time shelf image leaves = record { device = leaves; counts = record { faults = λ d. omega arith; write_faults = λ d. omega arith }; output = refl; taken = refl }

pub may_read : (shelf : Shelved) → IsShelf shelf → shelf.honest → MayStop shelf (read_now shelf)
may_read shelf is h = grind (arith, nat_tests)

-- a device that was only read may leave what it might have left
pub same_leaves : (old new : Disk) (bytes : List ℕ) → IsSame old new → MayLeave new bytes → MayLeave old bytes
same_leaves old new bytes same may = grind (arith, nat_tests)

module _ (old new : Shelved) (missing : Conditions) (arrays : List Array) (enters : Enters old missing arrays) (on : Continues old new)
    (same : (d : Device) → IsSame (old.disk d) (new.disk d)) (bears : IsBearable (geometry_of old) (failed_since old new missing)) where
  abbrev now : Conditions
  now = failed_since old new missing

  abbrev shelf : Geometry
  shelf = geometry_of old

  was_sound : (d : Device) → now d ≡ Sound → (missing d ≡ Sound) × (has_risen (old.disk d).faults (new.disk d).faults ≡ false)
  was_sound d sound = sound_since (has_risen (old.disk d).faults (new.disk d).faults) (missing d) sound

  pub clean_now : (d : Device) → now d ≡ Sound → (new.disk d).dirty ≡ []
  clean_now d sound = (same d).dirty ∙ enters.clean d (was_sound d sound).0

  -- whatever a stop leaves now still stands for the arrays
  pub stands_now : (start : Stop) → MayStop new start → Stands shelf start.image now arrays
  stands_now start may =
      let before : Stands shelf start.image missing arrays = enters.stands (at_time old start.image) (may_at_time old start.image (λ d. same_leaves (old.disk d) (new.disk d) (start.image d) (same d) (may.device d))) in
      more_may_go_missing shelf start.image missing now arrays (losing_within (λ d. has_risen (old.disk d).faults (new.disk d).faults) missing) bears before

  -- what the drives answered
  module _ (bytes : List ℕ) (answered : List Bool) (all : length answered ≡ old.drives) (read : (i : ℕ) → i < old.drives → IsRead old new bytes answered i) (start : Stop) (may : MayStop new start) where
    -- a sound device shows itself, another drive what it answered
    unsound : View
    unsound (Drive d) = if slice_index_or answered d.0 false then Some (new.disk (Drive d)).bytes else None
    unsound (Nv n) = None

    pub view : View
    view d = if is_sound (now d) then Some (start.image d) else unsound d

    pub view_sound : (d : Device) → now d ≡ Sound → view d ≡ Some (start.image d)
    unfolding view
    view_sound d sound = ap (λ (c : Condition). if is_sound c then Some (start.image d) else unsound d) sound

    view_unsound : (d : Device) → is_sound (now d) ≡ false → view d ≡ unsound d
    unfolding view
    view_unsound d not_sound = ap (λ (b : Bool). if b then Some (start.image d) else unsound d) not_sound

    -- a sound drive answered with what stands on it
    pub region_of : (i : ℕ) → i < old.drives → now (drive i) ≡ Sound → region_at bytes answered i ≡ Some (bytes_at 0 196608 (start.image (drive i)))
    region_of i lt sound = grind (arith, nat_tests, as_read, clean_now, risen_on_way, was_sound)

    unsound_shows : (t : BootSlot) (i : ℕ) → i < old.drives → (b : Bool) → slice_index_or answered i false ≡ b
        → option_and_then (shown_by t) (if b then Some (new.disk (drive i)).bytes else None) ≡ option_and_then (shown_by t) (region_at bytes answered i)
    unfolding region_at
    unsound_shows t i lt true is_answered = elim (read i lt) [
      | inl is ↦ sym (ap (option_and_then (shown_by t)) (is ∙ ap (λ (l : List ℕ). Some (bytes_at 0 196608 l)) (sym (same (drive i)).bytes)) ∙ same_shown t (new.disk (drive i)).bytes)
      | inr none ↦ absurd (cc (none.0, ap (λ (b : Bool). if b then Some (bytes_at (196608 * i) 196608 bytes) else None) is_answered))
    ]
    unsound_shows t i lt false is_answered = sym (ap (λ (b : Bool). option_and_then (shown_by t) (if b then Some (bytes_at (196608 * i) 196608 bytes) else None)) is_answered)

    same_vote : (t : BootSlot) (i : ℕ) → i < old.drives → option_and_then (shown_by t) (view (drive i)) ≡ option_and_then (shown_by t) (region_at bytes answered i)
    unfolding unsound
    same_vote t i lt = elim (cases_Bool (is_sound (now (drive i)))) [
      | inl is ↦
          let sound = is_sound_is (now (drive i)) is in
          ap (option_and_then (shown_by t)) (view_sound (drive i) sound)
          ∙ sym (ap (option_and_then (shown_by t)) (region_of i lt sound) ∙ same_shown t (start.image (drive i)))
      | inr is ↦ ap (option_and_then (shown_by t)) (view_unsound (drive i) is) ∙ unsound_shows t i lt (slice_index_or answered i false) refl
    ]

    pub same_votes : (t : BootSlot) → votes shelf view t ≡ votes shelf (seen bytes answered) t
    same_votes t = same_over (λ (i : ℕ). option_and_then (shown_by t) (view (drive i))) (λ (i : ℕ). option_and_then (shown_by t) (region_at bytes answered i)) 0 old.drives (λ i lt. same_vote t i (omega (arith, lt)))

    pub view_appears : MayAppear shelf start.image now now view
    view_appears = record { within = as_it_is now; bearable = bears; shown = view_sound }

    -- the record that the devices give
    pub given_here : Effective shelf view
    given_here = (stands_now start may).gives now view view_appears

    pub seen_effective : (slot : BootSlot) (body : List ℕ) → IsEffective shelf (seen bytes answered) slot body → IsEffective shelf view slot body
    seen_effective slot body e = record {
      decided = subst (λ (v : List (Option (List ℕ))). IsDecided v body) (sym (same_votes slot)) e.decided;
      highest = λ other decided. e.highest other (subst (λ (v : List (Option (List ℕ))). IsDecided v other) (same_votes (other_slot slot)) decided);
    }

    pub here_decided : IsDecided (votes shelf (seen bytes answered) given_here.slot) (spelling given_here.boot)
    here_decided = subst (λ (v : List (Option (List ℕ))). IsDecided v (spelling given_here.boot)) (same_votes given_here.slot) given_here.effective.decided

    -- what was loaded
    module _ (slot : BootSlot) (boot : BootRecord) (drives : List Bool) (held : IsHeld shelf bytes answered slot boot drives) where
      pub may_give : MayBeGiven shelf start.image now slot boot
      may_give = record { more = now; view = view; appears = view_appears; lawful = held.lawful; effective = seen_effective slot (spelling boot) held.effective }

      -- the sound devices alone
      pub strict : View
      strict d = if is_sound (now d) then Some (start.image d) else None

      strict_view : IsViewOf shelf start.image now now strict
      unfolding strict
      strict_view = record { within = as_it_is now; bearable = bears; shown = λ d. shows_now (now d) (start.image d) }

      pub reading_here : IsReadBy shelf now (of_members slot boot strict) slot boot ((stands_now start may).reads slot boot may_give).base arrays
      reading_here = ((stands_now start may).reads slot boot may_give).each now strict strict_view

      pub in_force_here : IsInForce slot boot
      in_force_here = reading_here.in_force

      has_it : (o : Option (List ℕ)) (b : Bool) → IsSome (if b then option_and_then (with_body slot (spelling boot)) o else None) → (xs : List ℕ) → o ≡ Some xs → bytes_eq (body_in slot xs) (spelling boot) ≡ true
      has_it o true some xs e = stands (bytes_eq (body_in slot xs) (spelling boot)) (subst (λ (p : Option (List ℕ)). IsSome (option_and_then (with_body slot (spelling boot)) p)) e some)
        where
          stands : (b : Bool) → IsSome (if b then Some xs else None) → b ≡ true
          stands true s = refl
          stands false s = absurd (cc s)
      has_it o false some xs e = absurd (cc some)

      strict_sound : (d : Device) → now d ≡ Sound → strict d ≡ Some (start.image d)
      unfolding strict
      strict_sound d sound = ap (λ (c : Condition). if is_sound c then Some (start.image d) else None) sound

      pub holds_it : (i : ℕ) → i < old.drives → now (drive i) ≡ Sound → (names boot (drive i) ≡ true) × (body_in slot (start.image (drive i)) ≡ spelling boot)
      holds_it i lt sound =
          let some : IsSome (of_members slot boot strict (drive i)) = reading_here.all_hold (drive i) lt sound in (
            is_named (names boot (drive i)) (option_and_then (with_body slot (spelling boot)) (strict (drive i))) some,
            same_text (body_in slot (start.image (drive i))) (spelling boot) (sym (has_it (strict (drive i)) (names boot (drive i)) some (start.image (drive i)) (strict_sound (drive i) sound))),
          )

      eq_self : (xs : List ℕ) → bytes_eq xs xs ≡ true
      eq_self xs = (bytes_eq-Decides xs xs).1 refl

      pub member_here : (i : ℕ) → i < old.drives → now (drive i) ≡ Sound → IsMember drives i
      unfolding is_holding
      member_here i lt sound =
          let it = holds_it i lt sound in
          let is : is_holding bytes answered slot (spelling boot) i ≡ true =
          ap (is_body_in slot (spelling boot)) (region_of i lt sound)
          ∙ ap (λ (l : List ℕ). bytes_eq l (spelling boot)) (same_body slot (start.image (drive i)) ∙ it.1) ∙ eq_self (spelling boot) in
          held.drives_are i ∙ and_from (slice_index_or boot.members.drives i false) (is_holding bytes answered slot (spelling boot) i) it.0 is
