-- The record is loaded and settled: at every moment the devices stand for the arrays, and then it is in force.
use Rattle.takeover.proofs.Prelude.{and_parts, nat_tests, ◌≡◌, ℕ, ◌+◌, ◌<◌, ◌≤◌, ◌-◌, ◌^◌, Bool, true, false, List, refl, sym, ◌∙◌, subst, arith, Ok, slice_index_or, None, Array, Geometry, Conditions, Sound, LeftOut, IsBearable, IsWithin, drive, Device, BootRecord, BootSlot, other_slot, gate_place, body_in, names, set_count, spelling, IsNamedByNone, IsInForce, Stands, MayBeGiven, more_may_go_missing, given_with_fewer, within_twice, was_left_out, sound_before, geometry_of, has_risen, Shelved, Stop, IsShelf, IsSame, Continues, MayStop, MayLeave, LeavesOnly, LeavesBut, WritesOnly, then_run, weaker, as_read, Enters, StandsStill, read_now, failed_since, failed_by, left_out_once, not_risen_since, Loaded, IsMember, OnClosed, slot_in, is_holding, IsLoadBy, TellsHolding, MayBeSettled, StandsNow, IsLoaded, IsFound, IsInForceOn, TellsFailed, losing_within, body_stands, drive_below, bodies_same, IsFoundOn, fewer_borne, sound_since}
use Rattle.takeover.proofs.NoFault.{few_lack}
use Rattle.session_spec.proofs.Resumed.{nothing_done}
use Rattle.takeover.proofs.Failing.{by_stop, since_later}
use Rattle.takeover.proofs.SettlingStops as settling
use Rattle.takeover.proofs.Loading.{may_read, at_time, may_at_time, same_leaves, clean_now, stands_now, member_here, in_force_here}
use Rattle.register.proofs.Rounds.{same_shelf as shelf_stays}

-- what may be given at a stop when nothing was done, as reads give it
given_at_entry : (old : Shelved) (missing : Conditions) (arrays : List Array) → Enters old missing arrays → (stop : Stop) → MayStop old stop
    → (slot : BootSlot) (boot : BootRecord) → MayBeGiven (geometry_of old) stop.image missing slot boot → MayBeGiven (geometry_of old) (read_now old).image missing slot boot
given_at_entry old missing arrays enters stop may slot boot g = grind (arith, nat_tests, sound_before, as_read)

-- where devices were only read they stand as before
module _ (old : Shelved) (missing : Conditions) (arrays : List Array) (enters : Enters old missing arrays) where
  pub still_reading : (stop : Stop) → LeavesBut (λ d i. ⊥) old stop → StandsStill old None missing arrays stop
  still_reading stop left =
      let begun : Stop = record { image = stop.image; faults = stop.faults; write_faults = stop.write_faults; output = old.output; taken = old.taken } in
      let may : MayStop old begun = record {
        device = λ d. record { size = (left.bytes d).size; is_byte = (left.bytes d).is_byte; clean = λ i clean. (left.bytes d).same i clean (λ w. w) };
        counts = record { faults = left.counts.faults; write_faults = left.counts.write_faults };
        output = refl;
        taken = refl;
      } in
      let is = nothing_done old missing arrays enters begun may in
      record { standing = is.standing; stored = is.stored }

  pub while_reading : (new : Shelved) → WritesOnly (λ d i. ⊥) old new → LeavesOnly old new (StandsStill old None missing arrays)
  while_reading new writes = weaker still_reading writes.any_moment

module _ (old mid : Shelved) (missing : Conditions) (arrays : List Array) (x : Loaded) (enters : Enters old missing arrays) (on : Continues old mid)
    (is_old : IsShelf old) (is_mid : IsShelf mid) (h : old.honest) (same : (d : Device) → IsSame (old.disk d) (mid.disk d)) (by : IsLoadBy old mid (Ok x)) (may_settle : MayBeSettled mid x) where
  abbrev now : Conditions
  now = failed_since old mid missing

  abbrev slot : BootSlot
  slot = slot_in x.slot

  h_mid : mid.honest
  h_mid = on.honest h

  pub may_now : MayStop mid (read_now mid)
  may_now = may_read mid is_mid h_mid

  same_shelf : geometry_of old ≡ geometry_of mid
  same_shelf = shelf_stays on

  module _ (bears : IsBearable (geometry_of old) now) where
    pub tells : TellsHolding mid x.drives now
    tells = record {
      bearable = subst (λ (g : Geometry). IsBearable g now) same_shelf bears;
      holding = λ i lt sound. member_here old mid missing arrays enters on same bears by.bytes by.answered by.all by.read (read_now mid) may_now slot x.record x.drives by.answer.held i (omega (arith, lt, on.drives)) sound;
      clean = λ i m sound. clean_now old mid missing arrays enters on same bears (drive i) sound;
    }

    pub stands_mid : StandsNow mid now arrays
    stands_mid start may = subst (λ (g : Geometry). Stands g start.image now arrays) same_shelf (stands_now old mid missing arrays enters on same bears start may)

    pub both : IsLoaded mid x.drives now slot x.record arrays × IsFound mid x.drives now slot x.record
    both = may_settle now arrays tells stands_mid

    pub in_its_slot : IsInForce slot x.record
    in_its_slot = in_force_here old mid missing arrays enters on same bears by.bytes by.answered by.all by.read (read_now mid) may_now slot x.record x.drives by.answer.held

    may_before : (d : Device) (bytes : List ℕ) → MayLeave (mid.disk d) bytes → MayLeave (old.disk d) bytes
    may_before d bytes may = same_leaves (old.disk d) (mid.disk d) bytes (same d) may

    pub room_of : x.record.generation < 2 ^ 48 - 16
    room_of =
        let here = read_now mid in
        let g = both.0.given here may_now in
        let g_old = given_with_fewer {shelf = geometry_of mid} {image = here.image} {missing = missing} {more = now} {slot = slot} {boot = x.record} (losing_within (λ d. has_risen (old.disk d).faults (mid.disk d).faults) missing) g in
        enters.room (at_time old here.image) (may_at_time old here.image (λ d. may_before d (here.image d) (may_now.device d))) slot x.record (subst (λ (s : Geometry). MayBeGiven s here.image missing slot x.record) (sym same_shelf) g_old)

    pub below_slots : (i : ℕ) → IsMember x.drives i → i < mid.drives
    below_slots i m = omega (arith, drive_below old mid x now is_old is_mid h h_mid on.drives on.units same by tells i m, on.drives)

    within_now : IsWithin missing now
    within_now = losing_within (λ d. has_risen (old.disk d).faults (mid.disk d).faults) missing

    -- at a stop of the settling
    module _ (stop : Stop) (left : LeavesBut (OnClosed x.drives mid (gate_place slot)) mid stop) where
      pub stands_at : Stands (geometry_of mid) stop.image now arrays
      stands_at = settling.stands_at old mid missing now arrays x enters on is_mid h_mid same within_now both.0 stop left

      pub left_out_at : (more : Conditions) → IsWithin now more → (d : Device) → missing d ≡ LeftOut → IsNamedByNone (geometry_of mid) stop.image more d
      left_out_at = settling.left_out_at old mid missing now arrays x enters on is_mid h_mid same within_now both.0 stop left

      -- and so at the entry
      pub unstored_at : (more : Conditions) → IsWithin now more → (t : BootSlot) (boot : BootRecord) → MayBeGiven (geometry_of mid) stop.image more t boot → MayBeGiven (geometry_of old) (read_now old).image missing t boot
      unstored_at more within t boot g =
          let start = settling.start old mid missing now arrays x enters on is_mid h_mid same within_now both.0 stop left in
          given_at_entry old missing arrays enters (at_time old start.image) (settling.begins old mid missing now arrays x enters on is_mid h_mid same within_now both.0 stop left) t boot
          (settling.given_then old mid missing now arrays x enters on is_mid h_mid same within_now both.0 stop left more within t boot g)

  pub still_settling : (stop : Stop) → LeavesBut (OnClosed x.drives mid (gate_place slot)) mid stop → StandsStill old None missing arrays stop
  still_settling stop left =
      let later = failed_by old stop missing in
      let more = by_stop old mid stop missing left.counts in
      record {
        standing = λ bears_then.
            let bears = fewer_borne (geometry_of old) now later more bears_then in
            record {
              stands = more_may_go_missing (geometry_of old) stop.image now later arrays more bears_then (subst (λ (g : Geometry). Stands g stop.image now arrays) (sym same_shelf) (stands_at bears stop left));
              left_out = λ d out. subst (λ (g : Geometry). IsNamedByNone g stop.image later d) (sym same_shelf)
                  (left_out_at bears stop left later more d (left_out_once (has_risen (old.disk d).faults (stop.faults d)) (missing d) out));
            };
        stored = λ t boot g.
            let bears = fewer_borne (geometry_of old) now g.more (within_twice now later g.more more g.appears.within) g.appears.bearable in
            unstored_at bears stop left later more t boot (subst (λ (s : Geometry). MayBeGiven s stop.image later t boot) same_shelf g);
      }

  pub through_moments : (new : Shelved) → WritesOnly (λ d i. ⊥) old mid → WritesOnly (OnClosed x.drives mid (gate_place slot)) mid new → LeavesOnly old new (StandsStill old None missing arrays)
  through_moments new reading writes = then_run on (while_reading old missing arrays enters mid reading) (weaker still_settling writes.any_moment)

  -- after the settling
  module _ (new : Shelved) (y : Loaded) (on_new : Continues mid new) (is_new : IsShelf new) (record_is : y.record ≡ x.record) (slot_is : y.slot ≡ x.slot)
      (fewer : (i : ℕ) → IsMember y.drives i → IsMember x.drives i) (writes : WritesOnly (OnClosed x.drives mid (gate_place slot)) mid new)
      (settled : (later : Conditions) → IsBearable (geometry_of old) now → TellsFailed mid x.drives now (λ d. (new.disk d).faults) later → IsInForceOn new y.drives later (other_slot (slot_in y.slot)) y.record)
      (later : Conditions) (since : IsWithin (failed_since old new missing) later) (bears_new : IsBearable (geometry_of old) later) where
    more_later : IsWithin now later
    more_later = within_twice now (failed_since old new missing) later (since_later old mid new missing on_new) since

    was_sound : (d : Device) → later d ≡ Sound → (missing d ≡ Sound) × (has_risen (old.disk d).faults (new.disk d).faults ≡ false)
    was_sound d sound = sound_since (has_risen (old.disk d).faults (new.disk d).faults) (missing d) (sound_before (failed_since old new missing d) (later d) (since d) sound)

    was_out : (d : Device) → later d ≡ LeftOut → missing d ≡ LeftOut
    was_out d out = left_out_once (has_risen (old.disk d).faults (new.disk d).faults) (missing d) (was_left_out (failed_since old new missing d) (later d) (since d) out)

    bears_mid : IsBearable (geometry_of old) now
    bears_mid = fewer_borne (geometry_of old) now later more_later bears_new

    same_mid : geometry_of mid ≡ geometry_of new
    same_mid = shelf_stays on_new

    not_since : (i : ℕ) → later (drive i) ≡ Sound → has_risen (mid.disk (drive i)).faults (new.disk (drive i)).faults ≡ false
    not_since i sound = grind (arith, nat_tests, not_risen_since, was_sound)

    pub tells_failed : TellsFailed mid x.drives now (λ d. (new.disk d).faults) later
    tells_failed = grind (arith, nat_tests, more_later, same_shelf, not_since)

    left_by : (stop : Stop) → MayStop new stop → LeavesBut (OnClosed x.drives mid (gate_place slot)) mid stop
    left_by stop may = (writes.any_moment.each stop (is_new.counts_now mid.moment stop on_new.later may)).1

    pub found_on : IsFoundOn new y later arrays
    found_on = record {
      in_force = settled later bears_mid tells_failed;
      in_its_slot = subst (λ (b : BootRecord). IsInForce (slot_in y.slot) b) (sym record_is) (subst (λ s. IsInForce (slot_in s) x.record) (sym slot_is) (in_its_slot bears_mid));
      named = λ i m. subst (λ (b : BootRecord). names b (drive i) ≡ true) (sym record_is) (named_of i (fewer i m));
      bodies = λ i m. subst (λ (b : BootRecord). body_in (slot_in y.slot) (new.disk (drive i)).bytes ≡ spelling b) (sym record_is)
          (subst (λ s. body_in (slot_in s) (new.disk (drive i)).bytes ≡ spelling x.record) (sym slot_is) (body_of i (fewer i m)));
      room = subst (λ (b : BootRecord). b.generation < 2 ^ 48 - 16) (sym record_is) (room_of bears_mid);
      stands = λ stop may. more_may_go_missing (geometry_of new) stop.image now later arrays more_later (subst (λ (g : Geometry). IsBearable g later) (same_shelf ∙ same_mid) bears_new)
          (subst (λ (g : Geometry). Stands g stop.image now arrays) same_mid (stands_at bears_mid stop (left_by stop may)));
      left_out = λ stop may d out. subst (λ (g : Geometry). IsNamedByNone g stop.image later d) same_mid
          (left_out_at bears_mid stop (left_by stop may) later more_later d (was_out d out));
    }
      where
        named_of : (i : ℕ) → IsMember x.drives i → names x.record (drive i) ≡ true
        named_of i m = (and_parts (slice_index_or x.record.members.drives i false) (is_holding by.bytes by.answered slot (spelling x.record) i) (sym (by.answer.held.drives_are i) ∙ m)).0

        body_of : (i : ℕ) → IsMember x.drives i → body_in slot (new.disk (drive i)).bytes ≡ spelling x.record
        body_of i m = bodies_same slot (mid.disk (drive i)).bytes (new.disk (drive i)).bytes ((writes.device (drive i)).size) (λ k out. (writes.device (drive i)).bytes k (λ w. out w.1)) slot
            ∙ body_stands old mid x now is_old is_mid h h_mid on.drives on.units same by (tells bears_mid) i (drive_below old mid x now is_old is_mid h h_mid on.drives on.units same by (tells bears_mid) i m) m

-- the counts that are compared
pub lacking : (old new : Shelved) (later : Conditions) (drives : List Bool) → IsBearable (geometry_of old) later → new.drives ≡ old.drives
    → ((i : ℕ) → i < new.drives → later (drive i) ≡ Sound → IsMember drives i) → old.drives ≤ set_count drives + 2
lacking old new later drives bears same sound = few_lack old.drives later drives old.units bears (λ i lt is. sound i (omega (arith, lt, same)) is)
