-- Gates that are opened where they are closed, over the body that was loaded.
use Rattle.boot_region.proofs.Prelude.{nat_tests, ◌≡◌, ◌⊎◌, inl, inr, ℕ, ◌<◌, List, [], length, map, slice_index, refl, sym, ◌∙◌, ap, subst, arith, Bool, true, false, Result, Ok, Err, is_ok, OnOk, OnErr, slice_index_or, Option, Some, None, option_and_then, if◌then◌else◌, cases_Bool, Device, SECTOR_BYTES, View, Conditions, Sound, IsBearable, is_sound, slots_of, drive, is_open, Array, BootRecord, spelling, BootSlot, IsRecordOf, IsDecided, votes, other_slot, gate_place, body_in, shown_by, Stands, MayBeGiven, MayAppear, OpensGatesOf, opening_gives, opening_still_gives, twice_other, sound_before, spells_one, boot_keeps, Failed, Span, Rises, geometry_of, Shelved, Stop, MayStop, Continues, Disk, IsShelf, IsIn, IsInSome, LeavesBut, WritesOnly, as_read, risen_on_way, IsMember, OnMembers, OnClosed, OneClosed, Opened, GivesNoMore, SoundAreMembers, IsFound, IsInForceOn, IsLoaded, IsSeen, TellsFailed, opened, bodies_same, open_shows, member_below}
use Rattle.pur_base.specs.declared.device.Device.TheVariants as dev
use Rattle.boot_region.proofs.Began.{began, began_at, as_left, as_read_then, may_begin, differs}
use Rattle.boot_region.proofs.Composing.{as_it_is, all_decide, is_sound_is}
use Rattle.boot_region.proofs.StillGiven.{opening_keeps}
use Rattle.boot_region.proofs.Phases.{same_bodies, same_others, gates_low}

pub leaves_members : (members : List Bool) (shelf : Shelved) (at : ℕ) (stop : Stop) → LeavesBut (OnClosed members shelf at) shelf stop → LeavesBut (OnMembers members at SECTOR_BYTES) shelf stop
leaves_members members shelf at stop left = record {
  bytes = λ d. let m = left.bytes d in record { size = m.size; is_byte = m.is_byte; same = λ i clean out. m.same i clean (λ w. out (to d i w)) };
  counts = left.counts;
}
  where
    to : (d : Device) (i : ℕ) → OnClosed members shelf at d i → OnMembers members at SECTOR_BYTES d i
    to (dev.Drive d) i w = (w.0, w.1)
    to (dev.Nv v) i w = w

pub closed_on_members : (members : List Bool) (shelf : Shelved) (slot at : ℕ) → IsMember members slot → (bytes : List ℕ) → bytes ≡ (shelf.disk (drive slot)).bytes → (d : Device) (i : ℕ) → OneClosed bytes (drive slot) at d i → OnClosed members shelf at d i
closed_on_members members shelf slot at member bytes e d i w = subst (λ (x : Device). OnClosed members shelf at x i) (sym w.0) (member, w.1, subst (λ (l : List ℕ). is_open at l ≡ false) e w.2)

pub opened_of : (answer : Result (Unit {0}) Failed) (honest was : Type 0) (at : ℕ) (old new : Disk) → was → (honest → OnOk answer (is_open at new.bytes ≡ true)) → (honest → OnOk answer (old.dirty ≡ [] → new.dirty ≡ [])) → OnErr answer (Rises old.faults new.faults) → OnOk answer (new.write_faults ≡ old.write_faults)
    → Opened honest was (is_ok answer ≡ true) at old new
opened_of (Ok x) honest was at old new member opens clean counts unlost = grind (arith, nat_tests)
opened_of (Err x) honest was at old new member opens clean counts unlost = grind (arith, nat_tests)

pub opened_apart : {honest was is : Type 0} {at : ℕ} {old new : Disk} → (was → ⊥) × (is → ⊥) → Opened honest was is at old new
opened_apart {honest} {was} {is} {at} {old} {new} none = grind (arith, nat_tests)

module _ (members : List Bool) (shelf : Shelved) (stop : Stop) (slot : BootSlot) (boot : BootRecord) (missing : Conditions) (arrays : List Array)
    (is : IsShelf shelf) (h : shelf.honest) (left : LeavesBut (OnClosed members shelf (gate_place slot)) shelf stop) (loaded : IsLoaded shelf members missing slot boot arrays) where
  -- a member whose gate was open is as it was
  as_before : (i k : ℕ) → IsMember members i → missing (drive i) ≡ Sound → is_open (gate_place slot) (shelf.disk (drive i)).bytes ≡ true → slice_index (stop.image (drive i)) k ≡ slice_index (shelf.disk (drive i)).bytes k
  as_before i k m sound open_then = (left.bytes (drive i)).same k (λ s. subst (λ (l : List Span). IsInSome l k) (loaded.clean i m sound) s) (λ w. absurd (cc (open_then, w.2)))

  far_same : (i k : ℕ) → IsMember members i → missing (drive i) ≡ Sound → (IsIn (record { start = gate_place slot; size = SECTOR_BYTES }) k → ⊥) → slice_index (stop.image (drive i)) k ≡ slice_index (shelf.disk (drive i)).bytes k
  far_same i k m sound out = (left.bytes (drive i)).same k (λ s. subst (λ (l : List Span). IsInSome l k) (loaded.clean i m sound) s) (λ w. out w.1)

  on_member : (i : ℕ) → IsMember members i → missing (drive i) ≡ Sound → (shown_by slot (stop.image (drive i)) ≡ shown_by slot (shelf.disk (drive i)).bytes)
      ⊎ ((shown_by slot (stop.image (drive i)) ≡ Some (spelling boot)) × (shown_by slot (shelf.disk (drive i)).bytes ≡ None))
  on_member i m sound = elim (cases_Bool (is_open (gate_place slot) (shelf.disk (drive i)).bytes)) [
    | inl open_then ↦
        let gate : slice_index (stop.image (drive i)) (gate_place slot) ≡ slice_index (shelf.disk (drive i)).bytes (gate_place slot) = as_before i (gate_place slot) m sound open_then in
        let body : body_in slot (stop.image (drive i)) ≡ body_in slot (shelf.disk (drive i)).bytes =
        bodies_same slot (shelf.disk (drive i)).bytes (stop.image (drive i)) ((left.bytes (drive i)).size) (λ k out. far_same i k m sound out) slot in
        inl (rw (gate, body) refl)
    | inr shut ↦ opened slot (shelf.disk (drive i)).bytes (stop.image (drive i)) ((left.bytes (drive i)).size) (λ k out. far_same i k m sound out) (spelling boot) (loaded.written i m sound) shut
  ]

  every : LeavesBut (OnMembers members (gate_place slot) SECTOR_BYTES) shelf stop
  every = leaves_members members shelf (gate_place slot) stop left

  opens_on : (i : ℕ) → missing (drive i) ≡ Sound → (shown_by slot (stop.image (drive i)) ≡ shown_by slot (began_at members shelf (gate_place slot) SECTOR_BYTES stop (drive i)))
      ⊎ ((shown_by slot (stop.image (drive i)) ≡ Some (spelling boot)) × (shown_by slot (began_at members shelf (gate_place slot) SECTOR_BYTES stop (drive i)) ≡ None))
  opens_on i sound = grind (arith, nat_tests, cases_Bool, as_read_then, every, on_member, as_left)

  opens : OpensGatesOf (began members shelf (gate_place slot) SECTOR_BYTES stop).image stop.image missing slot (spelling boot)
  opens = record { others = λ i sound. same_others members shelf stop slot every i; opens = opens_on }

  -- no other record may be given than at the start
  pub no_more_given : (t : BootSlot) (b : BootRecord) → MayBeGiven (geometry_of shelf) stop.image missing t b → MayBeGiven (geometry_of shelf) (began members shelf (gate_place slot) SECTOR_BYTES stop).image missing t b
  no_more_given t b g =
      let start = began members shelf (gate_place slot) SECTOR_BYTES stop in
      let may = may_begin members shelf (gate_place slot) SECTOR_BYTES stop every is h in
      elim (opening_gives (geometry_of shelf) start.image stop.image missing missing slot t boot b (as_it_is missing) opens g) [
        | inl same ↦ grind (arith, nat_tests, spells_one)
        | inr before ↦ before
      ]

  pub settling_began : MayStop shelf (began members shelf (gate_place slot) SECTOR_BYTES stop)
  settling_began = may_begin members shelf (gate_place slot) SECTOR_BYTES stop every is h

  pub gives_no_more : GivesNoMore shelf missing missing stop
  gives_no_more t b g = record { start = began members shelf (gate_place slot) SECTOR_BYTES stop; may = settling_began; given = no_more_given t b g }

  -- the record that was loaded may be given still
  pub still_given : MayBeGiven (geometry_of shelf) stop.image missing slot boot
  still_given = grind (arith, nat_tests, opening_keeps, opens, settling_began)

  -- at each moment of the settling the devices stand for the arrays
  pub stands_while_settling : Stands (geometry_of shelf) stop.image missing arrays
  stands_while_settling =
      let start = began members shelf (gate_place slot) SECTOR_BYTES stop in
      let s = loaded.stands start settling_began in
      boot_keeps (geometry_of shelf) start.image stop.image missing missing arrays (as_it_is missing) s.bearable (differs members shelf (gate_place slot) SECTOR_BYTES stop every (gates_low members shelf stop slot every))
      (opening_still_gives (geometry_of shelf) start.image stop.image missing missing slot boot (as_it_is missing) loaded.lawful opens s.gives)
      (λ t b g. (no_more_given t b g, λ i. same_bodies members shelf stop slot every t i))
      s

-- ---- after the settling
module _ (old new : Shelved) (was now : List Bool) (slot : BootSlot) (boot : BootRecord) (missing later : Conditions) (arrays : List Array)
    (is_old : IsShelf old) (is_new : IsShelf new) (h : old.honest) (on : Continues old new) (as_many : length now ≡ length was)
    (outcome : (i : ℕ) → i < length was → Opened old.honest (IsMember was i) (IsMember now i) (gate_place slot) (old.disk (drive i)) (new.disk (drive i)))
    (writes : WritesOnly (OnClosed was old (gate_place slot)) old new)
    (loaded : IsLoaded old was missing slot boot arrays) (found : IsFound old was missing slot boot) (tells : TellsFailed old was missing (λ d. (new.disk d).faults) later) where
  sound_then : (device : Device) → later device ≡ Sound → missing device ≡ Sound
  sound_then device s = sound_before (missing device) (later device) (tells.within device) s

  below : (i : ℕ) → IsMember now i → i < length was
  below i m = omega (arith, member_below now i m, as_many)

  same_shelf : geometry_of new ≡ geometry_of old
  same_shelf = grind (arith, nat_tests)

  still : SoundAreMembers new later now
  still i lt s = grind (arith, nat_tests, sound_then, drive, member_below, risen_on_way)

  clean : (i : ℕ) → IsMember now i → later (drive i) ≡ Sound → (new.disk (drive i)).dirty ≡ []
  clean i m s = let o = outcome i (below i m) in o.clean h m (loaded.clean i (o.before m) (sound_then (drive i) s))

  shows : (i : ℕ) → IsMember now i → later (drive i) ≡ Sound → shown_by slot (new.disk (drive i)).bytes ≡ Some (spelling boot)
  shows i m s =
      let o = outcome i (below i m) in
      open_shows slot (new.disk (drive i)).bytes (spelling boot) (o.opened h m)
      (bodies_same slot (old.disk (drive i)).bytes (new.disk (drive i)).bytes ((writes.device (drive i)).size) (λ k out. (writes.device (drive i)).bytes k (λ w. out w.1)) slot ∙ loaded.written i (o.before m) (sound_then (drive i) s))

  -- in each image that a stop now may leave
  module _ (stop : Stop) (may : MayStop new stop) where
    left : LeavesBut (OnMembers was (gate_place slot) SECTOR_BYTES) old stop
    left = leaves_members was old (gate_place slot) stop (writes.any_moment.each stop (is_new.counts_now old.moment stop on.later may)).1

    start : Stop
    start = began was old (gate_place slot) SECTOR_BYTES stop

    seen : IsSeen (geometry_of old) (began was old (gate_place slot) SECTOR_BYTES stop).image missing slot boot
    seen = found.seen (began was old (gate_place slot) SECTOR_BYTES stop) (may_begin was old (gate_place slot) SECTOR_BYTES stop left is_old h)

    -- sound devices as the stop leaves them, and the others as they were seen
    view : View
    view = λ device. if is_sound (later device) then Some (stop.image device) else seen.view device

    view_sound : (device : Device) → later device ≡ Sound → view device ≡ Some (stop.image device)
    unfolding view
    view_sound device s = rw s refl

    view_other : (device : Device) → is_sound (later device) ≡ false → view device ≡ seen.view device
    unfolding view
    view_other device u = rw u refl

    appears : MayAppear (geometry_of new) stop.image later later view
    appears = record { within = as_it_is later; bearable = subst (λ x. IsBearable x later) (sym same_shelf) tells.bearable; shown = view_sound }

    decided : IsDecided (votes (geometry_of new) view slot) (spelling boot)
    decided = all_decide (geometry_of new) stop.image later later view slot (spelling boot) is_new.drives.0
        (λ i lt s. let m = still i lt s in ap (shown_by slot) (as_read (new.disk (drive i)) (stop.image (drive i)) (clean i m s) (may.device (drive i))) ∙ shows i m s) appears

    vote : (i : ℕ) → option_and_then (shown_by (other_slot slot)) (view (drive i)) ≡ option_and_then (shown_by (other_slot slot)) (seen.view (drive i))
    vote i = elim (cases_Bool (is_sound (later (drive i)))) [
      | inl s ↦
          let sound = is_sound_is (later (drive i)) s in
          ap (option_and_then (shown_by (other_slot slot))) (view_sound (drive i) sound) ∙ same_others was old stop slot left i
          ∙ sym (ap (option_and_then (shown_by (other_slot slot))) (seen.shown (drive i) (sound_then (drive i) sound)))
      | inr u ↦ ap (option_and_then (shown_by (other_slot slot))) (view_other (drive i) u)
    ]

    same_votes : votes (geometry_of new) view (other_slot slot) ≡ votes (geometry_of old) seen.view (other_slot slot)
    same_votes =
        let each : (λ i. option_and_then (shown_by (other_slot slot)) (view (drive i))) ≡ (λ i. option_and_then (shown_by (other_slot slot)) (seen.view (drive i))) = λ k i. vote i k in
        ap (λ (f : ℕ → Option (List ℕ)). map f (slots_of (geometry_of new))) each
        ∙ ap (λ x. votes x seen.view (other_slot slot)) same_shelf

    given : MayBeGiven (geometry_of new) stop.image later slot boot
    given = record {
      more = later;
      view = view;
      appears = appears;
      lawful = subst (λ x. IsRecordOf x boot) (sym same_shelf) loaded.lawful;
      effective = record {
        decided = decided;
        highest = λ other d. seen.effective.highest other (subst (λ x. IsDecided x other) same_votes d);
      };
    }

  pub is_settled : IsInForceOn new now later (other_slot slot) boot
  is_settled = record {
    lawful = subst (λ x. IsRecordOf x boot) (sym same_shelf) loaded.lawful;
    sound = still;
    clean = clean;
    shown = λ i m s. subst (λ (t : BootSlot). shown_by t (new.disk (drive i)).bytes ≡ Some (spelling boot)) (sym (twice_other slot)) (shows i m s);
    given = λ stop may. subst (λ (t : BootSlot). MayBeGiven (geometry_of new) stop.image later t boot) (sym (twice_other slot)) (given stop may);
  }
