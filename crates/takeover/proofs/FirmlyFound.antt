-- Where no store was unfinished at the entry, the record in force is loaded and settled whatever drives fail.
use Rattle.takeover.proofs.Prelude.{nat_tests, ◌≡◌, inl, inr, ℕ, ◌+◌, ◌<◌, ◌≤◌, ◌-◌, ◌^◌, Bool, true, false, List, [], Option, Some, None, Ok, refl, sym, ◌∙◌, ap, subst, arith, option_and_then, slice_index_or, if◌then◌else◌, bytes_eq, same_text, cases_Bool, and_parts, Array, Geometry, Image, View, Condition, Conditions, Sound, Missing, LeftOut, IsBearable, IsWithin, MayBecome, is_missing, drive, nvram, Device, Drive, Nv, BootRecord, set_count, BootSlot, IsEffective, IsRecordOf, Yields, body_in, gate_place, generation_in, is_vote, names, of_members, other_slot, shown_by, with_body, spelling, IsNamedByNone, IsInForce, IsViewOf, MayAppear, MayBeGiven, Stands, twice_other, spells_one, more_may_go_missing, was_left_out, geometry_of, Shelved, Stop, IsShelf, IsSame, Continues, MayStop, LeavesOnly, LeavesBut, WritesOnly, then_run, weaker, as_read, Enters, read_now, Loaded, Slot, IsLoadBy, MayBeSettled, TellsHolding, IsMember, OnClosed, is_holding, slot_in, IsLoaded, StandsAgain, StandsNow, bodies_same, shown_body, IsFoundOn, EntersFirmly, IsFoundFirmly, unflagged}
use Rattle.boot_region.proofs.Composing.{all_decide, as_it_is, none_decided, votes_not}
use Rattle.boot_region.proofs.StillGiven.{yields_or}
use Rattle.boot_region.proofs.Stored.{lost, lost_within, never_sound, others_lost, others_not_sound, others_within}
use Rattle.register.proofs.Follows.{shows_itself}
use Rattle.register.proofs.Rounds.{same_shelf}
use Rattle.takeover.proofs.Loading.{at_time, may_at_time, may_read, same_leaves}
use Rattle.takeover.proofs.Majority.{the_held}
use Rattle.takeover.proofs.SettlingStops as settling
use Rattle.takeover.proofs.Showing.{below, gives, member_showed, showing, shown}

-- ---- drives that are lost

-- where at most two drives of the shelf aren't among these, which were sound, it is borne that the others are lost
pub others_borne : (shelf : Geometry) (missing : Conditions) (members : List Bool) → shelf.slots ≤ set_count members + 2 → ((i : ℕ) → shelf.slots ≤ i → IsMember members i → ⊥)
    → ((i : ℕ) → IsMember members i → missing (drive i) ≡ Sound) → IsBearable shelf missing → IsBearable shelf (others_lost missing members)
others_borne shelf missing members enough past sound bears =
    let few = unflagged (λ i. is_missing (others_lost missing members (drive i))) members 0 shelf.slots (λ i lt m. here i m) past in
    record { drives = omega (arith, few, enough); nvrams = bears.nvrams }
  where
    here : (i : ℕ) → IsMember members i → is_missing (others_lost missing members (drive (0 + i))) ≡ false
    here i m = grind (arith, nat_tests)

-- one that isn't sound later may be lost before
lost_becomes : (a b : Condition) → MayBecome a b → (b ≡ Sound → ⊥) → MayBecome (lost a) b
lost_becomes Sound b (inl sound) none = absurd (none sound)
lost_becomes Sound b (inr gone) none = elim (lost_within Sound) [
  | inl sound ↦ absurd (never_sound Sound sound)
  | inr is ↦ subst (λ (c : Condition). MayBecome c b) (sym is) gone
]
lost_becomes Missing b becomes none = subst (λ (c : Condition). MayBecome c b) (sym (lost_within Missing)) becomes
lost_becomes LeftOut b becomes none = subst (λ (c : Condition). MayBecome c b) (sym (lost_within LeftOut)) becomes

pub others_become : (missing later : Conditions) (members : List Bool) → IsWithin missing later → ((i : ℕ) → later (drive i) ≡ Sound → IsMember members i) → IsWithin (others_lost missing members) later
others_become missing later members more sound (Drive d) = grind (arith, nat_tests, cases_Bool, lost_becomes)
others_become missing later members more sound (Nv n) = more (Nv n)

-- ---- what may be given

-- a record that the sound drives show, over older ones, is given
module _ (shelf : Geometry) (image : Image) (later : Conditions) (bears : IsBearable shelf later) (eleven : 11 ≤ shelf.slots) (slot : BootSlot) (boot : BootRecord) (lawful : IsRecordOf shelf boot)
    (shows : (i : ℕ) → i < shelf.slots → later (drive i) ≡ Sound → shown_by slot (image (drive i)) ≡ Some (spelling boot))
    (older : (i : ℕ) → later (drive i) ≡ Sound → Yields slot (generation_in (body_in (other_slot slot) (image (drive i)))) (generation_in (spelling boot))) where
  abbrev full : View
  full d = Some (image d)

  appears : MayAppear shelf image later later full
  appears = record { within = as_it_is later; bearable = bears; shown = λ d sound. refl }

  no_vote : (other : List ℕ) → (Yields slot (generation_in other) (generation_in (spelling boot)) → ⊥) → (i : ℕ) → i < shelf.slots → later (drive i) ≡ Sound
      → is_vote other (shown_by (other_slot slot) (image (drive i))) ≡ false
  no_vote other newer i lt sound = votes_not (shown_by (other_slot slot) (image (drive i))) other (λ x e. differs x (shown_body (other_slot slot) (image (drive i)) x e))
    where
      differs : (x : List ℕ) → body_in (other_slot slot) (image (drive i)) ≡ x → bytes_eq x other ≡ false
      differs x is = elim (cases_Bool (bytes_eq x other)) [
        | inr not ↦ not
        | inl same ↦ absurd (newer (subst (λ (l : List ℕ). Yields slot (generation_in l) (generation_in (spelling boot))) (is ∙ same_text x other (sym same)) (older i sound)))
      ]

  effective : IsEffective shelf full slot (spelling boot)
  effective = record {
    decided = all_decide shelf image later later full slot (spelling boot) eleven shows appears;
    highest = λ other decided. elim (yields_or slot (generation_in other) (generation_in (spelling boot))) [
      | inl yields ↦ yields
      | inr newer ↦ absurd (none_decided shelf image later later full (other_slot slot) other eleven (no_vote other newer) appears decided)
    ];
  }

  pub given_firmly : MayBeGiven shelf image later slot boot
  given_firmly = record { more = later; view = full; appears = appears; lawful = lawful; effective = effective }

-- ---- the devices are read

module _ (old : Shelved) (missing : Conditions) (arrays : List Array) (enters : Enters old missing arrays) where
  again_reading : (stop : Stop) → LeavesBut (λ d i. ⊥) old stop → StandsAgain old missing arrays stop
  again_reading stop left = record {
    later = missing;
    within = as_it_is missing;
    logs = λ n. refl;
    stands = enters.stands (at_time old stop.image)
        (may_at_time old stop.image (λ d. record { size = (left.bytes d).size; is_byte = (left.bytes d).is_byte; clean = λ i clean. (left.bytes d).same i clean (λ w. w) }));
  }

  pub again_while_reading : (new : Shelved) → WritesOnly (λ d i. ⊥) old new → LeavesOnly old new (StandsAgain old missing arrays)
  again_while_reading new writes = weaker again_reading writes.any_moment

-- ---- the record is loaded

none_either : (b : Bool) → ◌≡◌ {A = Option (List ℕ)} (if b then None else None) None
none_either true = refl
none_either false = refl

module _ (old mid : Shelved) (missing : Conditions) (arrays : List Array) (x : Loaded) (enters : Enters old missing arrays) (on : Continues old mid)
    (is_old : IsShelf old) (is_mid : IsShelf mid) (h : old.honest) (same : (d : Device) → IsSame (old.disk d) (mid.disk d)) (by : IsLoadBy old mid (Ok x)) (may_settle : MayBeSettled mid x)
    (next : BootSlot) (boot : BootRecord) (entry : EntersFirmly old missing next boot) where
  abbrev slot : BootSlot
  slot = slot_in x.slot

  h_mid : mid.honest
  h_mid = on.honest h

  may_old : MayStop old (read_now old)
  may_old = may_read old is_old h

  in_entry : (i : ℕ) → i < old.drives → missing (drive i) ≡ Sound → IsMember entry.members i
  in_entry i lt sound = entry.firm.in_force.sound i lt sound

  below_old : (i : ℕ) → IsMember x.drives i → i < old.drives
  below_old i m = below old mid by.bytes by.answered by.all by.read slot x.record x.drives by.answer.held i m

  past : (i : ℕ) → old.drives ≤ i → IsMember x.drives i → ⊥
  past i le m = absurd (omega (arith, le, below_old i m))

  showed : (i : ℕ) → IsMember x.drives i → showing old by.answered (drive i) ≡ Some (old.disk (drive i)).bytes
  showed i m = elim (shown old mid by.bytes by.answered by.all by.read (drive i)) [
    | inl is ↦ is
    | inr none ↦
        let n = names x.record (drive i) in
        let silent : of_members slot x.record (showing old by.answered) (drive i) ≡ None =
        ap (λ (o : Option (List ℕ)). if n then option_and_then (with_body slot (spelling x.record)) o else None) none ∙ none_either n in
        absurd (cc (silent, member_showed old mid by.bytes by.answered by.all by.read slot x.record x.drives by.answer.held i m))
  ]

  -- it is the one in force
  majority : (slot ≡ other_slot next) × (spelling x.record ≡ spelling boot)
  majority = the_held (geometry_of old) (λ d. (old.disk d).bytes) (showing old by.answered) missing x.drives is_old.drives.0 enters.bearable by.answer.enough past
      (λ i. shown old mid by.bytes by.answered by.all by.read (drive i)) showed next (spelling boot)
      (λ i lt sound. entry.firm.in_force.shown i (in_entry i lt sound) sound) (λ i lt sound. entry.firm.older i (in_entry i lt sound) sound)
      slot (spelling x.record) (gives old mid by.bytes by.answered by.all by.read slot (spelling x.record) by.answer.held.effective)

  the_record : x.record ≡ boot
  the_record = spells_one (geometry_of old) x.record boot by.answer.held.lawful entry.firm.in_force.lawful majority.1

  other_is_next : other_slot slot ≡ next
  other_is_next = ap other_slot majority.0 ∙ twice_other next

  named : (i : ℕ) → IsMember x.drives i → names x.record (drive i) ≡ true
  named i m = (and_parts (slice_index_or x.record.members.drives i false) (is_holding by.bytes by.answered slot (spelling x.record) i) (sym (by.answer.held.drives_are i) ∙ m)).0

  -- the drives that hold it were sound
  was_sound : (i : ℕ) → IsMember x.drives i → missing (drive i) ≡ Sound
  was_sound i m = entry.named (drive i) (subst (λ (b : BootRecord). names b (drive i) ≡ true) the_record (named i m))

  -- where the others are missing as well, it was loaded
  abbrev now : Conditions
  now = others_lost missing x.drives

  within_now : IsWithin missing now
  within_now = others_within missing x.drives

  bears_now : IsBearable (geometry_of old) now
  bears_now = others_borne (geometry_of old) missing x.drives by.answer.enough past was_sound enters.bearable

  tells : TellsHolding mid x.drives now
  tells = grind (arith, nat_tests, same_shelf, bears_now, others_not_sound, drive, was_sound)

  stands_mid : StandsNow mid now arrays
  stands_mid start may = subst (λ (g : Geometry). Stands g start.image now arrays) (same_shelf on)
      (more_may_go_missing (geometry_of old) start.image missing now arrays within_now bears_now
      (enters.stands (at_time old start.image) (may_at_time old start.image (λ d. same_leaves (old.disk d) (mid.disk d) (start.image d) (same d) (may.device d)))))

  loaded : IsLoaded mid x.drives now slot x.record arrays
  loaded = (may_settle now arrays tells stands_mid).0

  -- ---- and settled

  again_settling : (stop : Stop) → LeavesBut (OnClosed x.drives mid (gate_place slot)) mid stop → StandsAgain old missing arrays stop
  again_settling stop left = record {
    later = now;
    within = within_now;
    logs = λ n. refl;
    stands = subst (λ (g : Geometry). Stands g stop.image now arrays) (sym (same_shelf on)) (settling.stands_at old mid missing now arrays x enters on is_mid h_mid same within_now loaded stop left);
  }

  pub again_found : (new : Shelved) → WritesOnly (λ d i. ⊥) old mid → WritesOnly (OnClosed x.drives mid (gate_place slot)) mid new → LeavesOnly old new (StandsAgain old missing arrays)
  again_found new reading writes = then_run on (again_while_reading old missing arrays enters mid reading) (weaker again_settling writes.any_moment)

  module _ (new : Shelved) (left : List Bool) (on_new : Continues mid new) (is_new : IsShelf new) (fewer : (i : ℕ) → IsMember left i → IsMember x.drives i)
      (writes : WritesOnly (OnClosed x.drives mid (gate_place slot)) mid new)
      (shows : (i : ℕ) → IsMember left i → shown_by slot (new.disk (drive i)).bytes ≡ Some (spelling x.record))
      (stay_clean : (i : ℕ) → i < mid.drives → IsMember left i → (mid.disk (drive i)).dirty ≡ [] → (new.disk (drive i)).dirty ≡ []) where
    abbrev y : Loaded
    y = record { «record» = x.record; slot = x.slot; drives = left }

    same_mid : geometry_of mid ≡ geometry_of new
    same_mid = same_shelf on_new

    sound_left : (i : ℕ) → IsMember left i → missing (drive i) ≡ Sound
    sound_left i m = was_sound i (fewer i m)

    clean_left : (i : ℕ) → IsMember left i → (new.disk (drive i)).dirty ≡ []
    clean_left i m = stay_clean i (omega (arith, below_old i (fewer i m), on.drives)) m ((same (drive i)).dirty ∙ enters.clean (drive i) (sound_left i m))

    body_stays : (t : BootSlot) (i : ℕ) → body_in t (new.disk (drive i)).bytes ≡ body_in t (old.disk (drive i)).bytes
    body_stays t i = bodies_same slot (mid.disk (drive i)).bytes (new.disk (drive i)).bytes (writes.device (drive i)).size (λ k out. (writes.device (drive i)).bytes k (λ w. out w.1)) t ∙ ap (body_in t) (same (drive i)).bytes

    -- what the other slot holds is older
    older_left : (i : ℕ) → IsMember left i → Yields slot (generation_in (body_in (other_slot slot) (new.disk (drive i)).bytes)) (generation_in (spelling x.record))
    older_left i m = grind (arith, nat_tests, in_entry, below_old, sound_left, majority, other_is_next, body_stays)

    module _ (later : Conditions) (more : IsWithin missing later) (bears : IsBearable (geometry_of new) later) (sound : (i : ℕ) → later (drive i) ≡ Sound → IsMember left i) where
      more_now : IsWithin now later
      more_now = others_become missing later x.drives more (λ i s. fewer i (sound i s))

      lawful_new : IsRecordOf (geometry_of new) x.record
      lawful_new = subst (λ (g : Geometry). IsRecordOf g x.record) (same_shelf on ∙ same_mid) by.answer.held.lawful

      module _ (stop : Stop) (may : MayStop new stop) where
        left_by : LeavesBut (OnClosed x.drives mid (gate_place slot)) mid stop
        left_by = (writes.any_moment.each stop (is_new.counts_now mid.moment stop on_new.later may)).1

        as_now : (i : ℕ) → later (drive i) ≡ Sound → stop.image (drive i) ≡ (new.disk (drive i)).bytes
        as_now i s = as_read (new.disk (drive i)) (stop.image (drive i)) (clean_left i (sound i s)) (may.device (drive i))

        pub stands_then : Stands (geometry_of new) stop.image later arrays
        stands_then = more_may_go_missing (geometry_of new) stop.image now later arrays more_now bears
            (subst (λ (g : Geometry). Stands g stop.image now arrays) same_mid (settling.stands_at old mid missing now arrays x enters on is_mid h_mid same within_now loaded stop left_by))

        pub given_then : MayBeGiven (geometry_of new) stop.image later slot x.record
        given_then = given_firmly (geometry_of new) stop.image later bears is_new.drives.0 slot x.record lawful_new
            (λ i lt s. ap (shown_by slot) (as_now i s) ∙ shows i (sound i s))
            (λ i s. subst (λ (l : List ℕ). Yields slot (generation_in (body_in (other_slot slot) l)) (generation_in (spelling x.record))) (sym (as_now i s)) (older_left i (sound i s)))

        as_it_stands : IsViewOf (geometry_of new) stop.image later later (λ d. Some (stop.image d))
        as_it_stands = record { within = as_it_is later; bearable = bears; shown = λ d. shows_itself (later d) (stop.image d) (may.device d).is_byte }

        pub in_force_then : IsInForce slot x.record
        in_force_then = ((stands_then.reads slot x.record given_then).each later (λ d. Some (stop.image d)) as_it_stands).in_force

        pub left_out_then : (d : Device) → later d ≡ LeftOut → IsNamedByNone (geometry_of new) stop.image later d
        left_out_then d out = subst (λ (g : Geometry). IsNamedByNone g stop.image later d) same_mid
            (settling.left_out_at old mid missing now arrays x enters on is_mid h_mid same within_now loaded stop left_by later more_now d (was_left_out (missing d) (later d) (more d) out))

      found_then : IsFoundOn new y later arrays
      found_then = record {
        in_force = record {
          lawful = lawful_new;
          sound = λ i lt s. sound i s;
          clean = λ i m s. clean_left i m;
          shown = λ i m s. subst (λ (t : BootSlot). shown_by t (new.disk (drive i)).bytes ≡ Some (spelling x.record)) (sym (twice_other slot)) (shows i m);
          given = λ start may. subst (λ (t : BootSlot). MayBeGiven (geometry_of new) start.image later t x.record) (sym (twice_other slot)) (given_then start may);
        };
        in_its_slot = in_force_then (read_now new) (may_read new is_new (on_new.honest h_mid));
        named = λ i m. named i (fewer i m);
        bodies = λ i m. shown_body slot (new.disk (drive i)).bytes (spelling x.record) (shows i m);
        room = subst (λ (b : BootRecord). b.generation < 2 ^ 48 - 16) (sym the_record) (enters.room (read_now old) may_old (other_slot next) boot (entry.firm.in_force.given (read_now old) may_old));
        stands = stands_then;
        left_out = left_out_then;
      }

    found_firmly : IsFoundFirmly new y missing arrays
    found_firmly = record {
      sound = sound_left;
      below = λ i m. omega (arith, below_old i (fewer i m), on.drives, on_new.drives);
      logs = λ n is. entry.named (nvram n) (subst (λ (b : BootRecord). names b (nvram n) ≡ true) the_record is);
      older = λ i m. subst (λ (t : BootSlot). Yields t (generation_in (body_in (other_slot slot) (new.disk (drive i)).bytes)) (generation_in (spelling x.record))) (sym (twice_other slot)) (older_left i m);
      found = found_then;
    }

    -- as it was settled
    pub settled_firmly : (r : BootRecord) (s : Slot) → r ≡ x.record → s ≡ x.slot → IsFoundFirmly new (record { «record» = r; slot = s; drives = left }) missing arrays
    settled_firmly r s record_is slot_is = grind (arith, nat_tests, found_firmly)
