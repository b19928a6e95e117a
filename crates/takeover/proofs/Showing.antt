-- What the drives showed, as a view of the devices, and the record that it gives.
use Rattle.takeover.proofs.Prelude.{◌≡◌, ◌⊎◌, inl, inr, ℕ, ◌+◌, ◌*◌, ◌-◌, ◌^◌, ◌<◌, ◌≤◌, ◌&&◌, Bool, true, false, if◌then◌else◌, List, length, Option, Some, None, option_and_then, slice_index_or, refl, sym, ◌∙◌, ap, subst, arith, Result, Ok, Err, nat_lt, is_some, ltb-true, lt-ltb, ◌/◌, [], slice_index, ext_get_or, cases_Bool, cases_lt, and_parts, get_or_past, same_text, bytes_at, Device, Drive, Nv, View, Sound, Missing, is_missing, missing_drives, drive, nvram, BadRecord, BootRecord, read_record, set_count, BootSlot, Effective, IsEffective, IsDecided, votes, other_slot, shown_by, body_in, with_body, of_members, spelling, not_holding, spells_one, one_is_effective, Rises, geometry_of, has_risen, has_failed, losing, Shelved, Continues, OnlyFailedAreSilent, read_now, HasNoArray, HasTooFew, IsUnread, BOOT_UNITS, SECTOR_BYTES, UNIT_BYTES, is_open, Conditions, gate_place, DiffersOnlyIn, IsIn, IsSame, WritesOnly, failed_since, NothingWritten, risen, risen_on_way, LoadFault, IsMember, region_at, seen, is_holding, is_body_in, IsRead, IsHeld, IsFaultOf, IsBadBody, IsSpent, same_body, same_shown, same_over, IsLoadBy, IsLoadOf, OnClosed, slot_in, bodies_same, gate_low, open_shows, fault_of, IsSeenBy, IsSeenIn, sound_since, unflagged, nat_tests, Loaded, Slot, AreClean}
use Rattle.std.proofs.Common.{bytes_eq}
use Rattle.boot_codec.proofs.RecordLemmas.{record_again}
use Rattle.boot_region.specs.declared.loading.LoadFault.TheVariants as faults
use Rattle.takeover.proofs.NoFault.{few_lack}
use Rattle.takeover.proofs.GivenFrom.{given_from}

-- a drive of the shelf shows its bytes where it answered, and each other device shows them
abbrev pick : Bool → Bool → List ℕ → Option (List ℕ)
pick true is_answered bytes = if is_answered then Some bytes else None
pick false is_answered bytes = Some bytes

pub showing : Shelved → List Bool → View
showing old answered (Drive d) = pick (nat_lt d.0 old.drives) (slice_index_or answered d.0 false) (old.disk (Drive d)).bytes
showing old answered (Nv n) = Some (old.disk (Nv n)).bytes

if_both : (a b : Bool) (xs : List ℕ) → (if a then (if b then Some xs else None) else None) ≡ (if a && b then Some xs else None)
if_both a b xs = grind (arith, nat_tests)

if_none : (a b : Bool) (xs : List ℕ) → b ≡ false → (if a then None else None) ≡ (if a && b then Some xs else None)
if_none true b xs e = rw e refl
if_none false b xs e = refl

is_some_if : (b : Bool) (xs : List ℕ) → is_some (if b then Some xs else None) ≡ true → b ≡ true
is_some_if true xs e = refl
is_some_if false xs e = absurd (cc e)

sound_if : (b : Bool) → (if b then Sound else Missing) ≡ Sound → b ≡ true
sound_if true e = refl
sound_if false e = absurd (cc e)

module _ (old mid : Shelved) (bytes : List ℕ) (answered : List Bool) (all : length answered ≡ old.drives) (read : (i : ℕ) → i < old.drives → IsRead old mid bytes answered i) where
  abbrev view : View
  view = showing old answered

  region_none : (i : ℕ) → slice_index_or answered i false ≡ false → region_at bytes answered i ≡ None
  unfolding region_at
  region_none i none = ap (λ (b : Bool). if b then Some (bytes_at (196608 * i) 196608 bytes) else None) none

  region_some : (i : ℕ) → i < old.drives → slice_index_or answered i false ≡ true → region_at bytes answered i ≡ Some (bytes_at 0 196608 (old.disk (drive i)).bytes)
  unfolding region_at
  region_some i lt some = grind (arith, nat_tests)

  view_answered : (i : ℕ) → i < old.drives → slice_index_or answered i false ≡ true → view (drive i) ≡ Some (old.disk (drive i)).bytes
  unfolding showing
  view_answered i lt some = let below : nat_lt i old.drives ≡ true = lt-ltb i old.drives lt in rw (below, some) refl

  view_silent : (i : ℕ) → i < old.drives → slice_index_or answered i false ≡ false → view (drive i) ≡ None
  unfolding showing
  view_silent i lt none = let below : nat_lt i old.drives ≡ true = lt-ltb i old.drives lt in rw (below, none) refl

  one_shown : (below is : Bool) (b : List ℕ) → (pick below is b ≡ Some b) ⊎ (pick below is b ≡ None)
  one_shown below is b = grind (arith, nat_tests)

  pub shown : (d : Device) → (view d ≡ Some (old.disk d).bytes) ⊎ (view d ≡ None)
  unfolding showing
  shown (Drive d) = one_shown (nat_lt d.0 old.drives) (slice_index_or answered d.0 false) (old.disk (Drive d)).bytes
  shown (Nv n) = inl refl

  pub nvrams : (n : ℕ) → view (nvram n) ≡ Some (old.disk (nvram n)).bytes
  unfolding showing
  nvrams n = refl

  one_silent : (below is : Bool) (b : List ℕ) → pick below is b ≡ None → (below ≡ true) × (is ≡ false)
  one_silent below is b h = grind (arith, nat_tests)

  -- a device that showed nothing failed
  pub failed_if_silent : (d : Device) → view d ≡ None → Rises (old.disk d).faults (mid.disk d).faults
  unfolding showing
  failed_if_silent d h = grind (arith, nat_tests, one_silent, nat_lt, slice_index_or, ltb-true, region_none)

  pub silent : (new : Shelved) → Continues mid new → OnlyFailedAreSilent (has_failed (read_now old) (read_now new)) view
  silent new on d none = grind (arith, nat_tests, failed_if_silent)

  -- ---- what it gives

  same_vote : (t : BootSlot) (i : ℕ) → i < old.drives → option_and_then (shown_by t) (view (drive i)) ≡ option_and_then (shown_by t) (region_at bytes answered i)
  same_vote t i lt = elim (cases_Bool (slice_index_or answered i false)) [
    | inl some ↦
        ap (option_and_then (shown_by t)) (view_answered i lt some)
        ∙ sym (ap (option_and_then (shown_by t)) (region_some i lt some) ∙ same_shown t (old.disk (drive i)).bytes)
    | inr none ↦ ap (option_and_then (shown_by t)) (view_silent i lt none) ∙ sym (ap (option_and_then (shown_by t)) (region_none i none))
  ]

  same_votes : (t : BootSlot) → votes (geometry_of old) view t ≡ votes (geometry_of old) (seen bytes answered) t
  same_votes t = same_over (λ (i : ℕ). option_and_then (shown_by t) (view (drive i))) (λ (i : ℕ). option_and_then (shown_by t) (region_at bytes answered i)) 0 old.drives (λ i lt. same_vote t i (omega (arith, lt)))

  pub gives : (slot : BootSlot) (body : List ℕ) → IsEffective (geometry_of old) (seen bytes answered) slot body → IsEffective (geometry_of old) view slot body
  gives slot body e = record {
    decided = subst (λ (v : List (Option (List ℕ))). IsDecided v body) (sym (same_votes slot)) e.decided;
    highest = λ other decided. e.highest other (subst (λ (v : List (Option (List ℕ))). IsDecided v other) (same_votes (other_slot slot)) decided);
  }

  -- it gives one record alone
  is_the_body : (e : Effective (geometry_of old) view) (slot : BootSlot) (body : List ℕ) → IsEffective (geometry_of old) (seen bytes answered) slot body → spelling e.boot ≡ body
  is_the_body e slot body other = (one_is_effective (geometry_of old) view e.slot slot (spelling e.boot) body e.effective (gives slot body other)).1

  -- ---- which drives hold it

  module _ (slot : BootSlot) (boot : BootRecord) (drives : List Bool) (held : IsHeld (geometry_of old) bytes answered slot boot drives) where
    held_at : (i : ℕ) → i < old.drives → of_members slot boot view (drive i)
        ≡ (if slice_index_or boot.members.drives i false && is_holding bytes answered slot (spelling boot) i then Some (old.disk (drive i)).bytes else None)
    unfolding is_holding
    held_at i lt = elim (cases_Bool (slice_index_or answered i false)) [
      | inl some ↦
          let b : List ℕ = (old.disk (drive i)).bytes in
          let n = slice_index_or boot.members.drives i false in
          let is : is_body_in slot (spelling boot) (region_at bytes answered i) ≡ bytes_eq (body_in slot b) (spelling boot) =
          ap (is_body_in slot (spelling boot)) (region_some i lt some) ∙ ap (λ (l : List ℕ). bytes_eq l (spelling boot)) (same_body slot b) in
          ap (λ (o : Option (List ℕ)). if n then option_and_then (with_body slot (spelling boot)) o else None) (view_answered i lt some)
          ∙ if_both n (bytes_eq (body_in slot b) (spelling boot)) b
          ∙ ap (λ (h : Bool). if n && h then Some b else None) (sym is)
      | inr none ↦
          let n = slice_index_or boot.members.drives i false in
          ap (λ (o : Option (List ℕ)). if n then option_and_then (with_body slot (spelling boot)) o else None) (view_silent i lt none)
          ∙ if_none n (is_body_in slot (spelling boot) (region_at bytes answered i)) (old.disk (drive i)).bytes (ap (is_body_in slot (spelling boot)) (region_none i none))
    ]

    members_are : (i : ℕ) → i < old.drives → of_members slot boot view (drive i) ≡ (if slice_index_or drives i false then Some (old.disk (drive i)).bytes else None)
    members_are i lt = held_at i lt ∙ ap (λ (b : Bool). if b then Some (old.disk (drive i)).bytes else None) (sym (held.drives_are i))

    pub below : (i : ℕ) → IsMember drives i → i < old.drives
    unfolding is_holding
    below i m = grind (arith, nat_tests, and_parts, slice_index_or, region_none, get_or_past)

    -- its body stands on each of them
    pub stands_on : (i : ℕ) → IsMember drives i → body_in slot (old.disk (drive i)).bytes ≡ spelling boot
    unfolding is_holding
    stands_on i m =
        let holds : is_body_in slot (spelling boot) (region_at bytes answered i) ≡ true =
        (and_parts (slice_index_or boot.members.drives i false) (is_holding bytes answered slot (spelling boot) i) (sym (held.drives_are i) ∙ m)).1 in
        elim (cases_Bool (slice_index_or answered i false)) [
          | inl some ↦
              let front : List ℕ = bytes_at 0 196608 (old.disk (drive i)).bytes in
              let e : bytes_eq (body_in slot front) (spelling boot) ≡ true = subst (λ (o : Option (List ℕ)). is_body_in slot (spelling boot) o ≡ true) (region_some i (below i m) some) holds in
              sym (same_body slot (old.disk (drive i)).bytes) ∙ same_text (body_in slot front) (spelling boot) (sym e)
          | inr none ↦ absurd (cc (ap (is_body_in slot (spelling boot)) (region_none i none), holds))
        ]

    pub member_showed : (i : ℕ) → IsMember drives i → of_members slot boot view (drive i) ≡ Some (old.disk (drive i)).bytes
    member_showed i m = members_are i (below i m) ∙ ap (λ (b : Bool). if b then Some (old.disk (drive i)).bytes else None) m

    pub other_hid : (i : ℕ) → i < old.drives → slice_index_or drives i false ≡ false → of_members slot boot view (drive i) ≡ None
    other_hid i lt none = members_are i lt ∙ ap (λ (b : Bool). if b then Some (old.disk (drive i)).bytes else None) none

    -- where they are enough, few drives don't hold it
    pub few_without : old.drives ≤ set_count drives + 2 → missing_drives (geometry_of old) (not_holding slot boot view) ≤ 2
    few_without enough =
        let few = unflagged (λ i. is_missing (not_holding slot boot view (drive i))) drives 0 old.drives
        (λ i lt m. let e : 0 + i ≡ i = omega arith in subst (λ (k : ℕ). is_missing (not_holding slot boot view (drive k)) ≡ false) (sym e)
        (ap (λ (o : Option (List ℕ)). is_missing (if is_some o then Sound else Missing)) (member_showed i m)))
        (λ i le m. absurd (omega (arith, le, below i m))) in
        omega (arith, few, enough)

    -- too few are left of them
    pub too_few : (new : Shelved) → Continues mid new → (left : List Bool)
        → ((i : ℕ) → i < old.drives → IsMember drives i → IsMember left i ⊎ (has_risen (old.disk (drive i)).faults (new.disk (drive i)).faults ≡ true))
        → set_count left + 2 < old.drives → (2 < missing_drives (geometry_of old) (not_holding slot boot view) → NothingWritten old new) → HasTooFew old new
    too_few new on left dropped few unwritten = record {
      found = record { view = view; shown = shown; effective = record { slot = slot; boot = boot; lawful = held.lawful; effective = gives slot (spelling boot) held.effective } };
      silent = silent new on;
      unborne = λ bears. absurd (omega (arith, few, few_lack old.drives (losing (has_failed (read_now old) (read_now new)) (not_holding slot boot view)) left old.units bears still));
      unwritten = unwritten;
    }
      where
        is_member : (i : ℕ) → i < old.drives → (if is_some (of_members slot boot view (drive i)) then Sound else Missing) ≡ Sound → IsMember drives i
        is_member i lt sound = is_some_if (slice_index_or drives i false) (old.disk (drive i)).bytes (subst (λ (o : Option (List ℕ)). is_some o ≡ true) (members_are i lt) (sound_if (is_some (of_members slot boot view (drive i))) sound))

        still : (i : ℕ) → i < old.drives → losing (has_failed (read_now old) (read_now new)) (not_holding slot boot view) (drive i) ≡ Sound → IsMember left i
        still i lt sound =
            let both = sound_since (has_risen (old.disk (drive i)).faults (new.disk (drive i)).faults) (not_holding slot boot view (drive i)) sound in
            elim (dropped i lt (is_member i lt both.0)) [ inl is ↦ is | inr rose ↦ absurd (cc (rose, both.1)) ]

  -- ---- why there is none

  -- nothing was written yet
  no_array : Continues mid mid → NothingWritten old mid → ((e : Effective (geometry_of old) view) → IsUnread view e) → HasNoArray old mid
  no_array on reading unread = record { view = view; shown = shown; silent = silent mid on; unread = unread; unwritten = λ none. reading }

  bad_body : (e : Effective (geometry_of old) view) (fault : BadRecord) → IsBadBody (geometry_of old) bytes answered fault → ⊥
  bad_body e fault bad =
      let same : spelling e.boot ≡ bad.body = is_the_body e bad.slot bad.body bad.effective in
      let again : ◌≡◌ {A = Result BootRecord BadRecord} (read_record old.drives old.units bad.body) (Ok e.boot) = record_again old.drives old.units e.boot bad.body e.lawful.lawful e.lawful.slots e.lawful.units (sym same) in
      absurd (cc (again, bad.exact))

  undecided : (e : Effective (geometry_of old) view) → IsFaultOf (geometry_of old) bytes answered faults.NoArray → ⊥
  undecided e none = none e.slot (spelling e.boot) (subst (λ (v : List (Option (List ℕ))). IsDecided v (spelling e.boot)) (same_votes e.slot) e.effective.decided)

  spent : (e : Effective (geometry_of old) view) → IsSpent (geometry_of old) bytes answered → e.boot.generation < 2 ^ 48 - 8 → ⊥
  spent e is room =
      let same : e.boot ≡ is.boot = spells_one (geometry_of old) e.boot is.boot e.lawful is.lawful (is_the_body e is.slot (spelling is.boot) is.effective) in
      let as_high : e.boot.generation ≡ is.boot.generation = ap (λ (b : BootRecord). b.generation) same in
      absurd (omega (arith, room, is.spent, as_high))

  pub seen_fault : Continues mid mid → NothingWritten old mid → (fault : LoadFault) → IsFaultOf (geometry_of old) bytes answered fault → IsSeenBy old mid (Err (fault_of fault))
  seen_fault on reading (faults.Memory m) is = tt
  seen_fault on reading faults.NoArray is = no_array on reading (λ e. absurd (undecided e is))
  seen_fault on reading (faults.BadRecord b) is = no_array on reading (λ e. absurd (bad_body e b is))
  seen_fault on reading faults.Spent is = no_array on reading (λ e. inl (λ room. spent e is room))
  seen_fault on reading (faults.TooFew drives) is = too_few is.slot is.boot drives is.held mid on drives (λ i lt m. inl m) is.too_few (λ many. reading)

-- ---- the record that was found

-- a loading that failed
pub seen_not_loaded : (old mid : Shelved) → Continues mid mid → NothingWritten old mid → (e : LoadFault) → IsLoadOf old mid (Err e) → IsSeenBy old mid (Err (fault_of e))
seen_not_loaded old mid on reading (faults.Memory m) by = tt
seen_not_loaded old mid on reading e by = seen_fault old mid by.bytes by.answered by.all by.read on reading e by.answer

-- what was clean when it was read is clean still after the settling
pub clean_settled : (old mid new : Shelved) (missing : Conditions) → AreClean old missing → ((d : Device) → IsSame (old.disk d) (mid.disk d)) → Continues old mid
    → ((d : Device) → (mid.disk d).dirty ≡ [] → ((new.disk d).dirty ≡ []) ⊎ Rises (mid.disk d).faults (new.disk d).faults) → AreClean new (failed_since old new missing)
clean_settled old mid new missing clean same on stays d sound = grind (arith, nat_tests, sound_since, has_risen, risen_on_way)

module _ (old mid new : Shelved) (x : Loaded) (on : Continues old mid) (after : Continues mid new) (same : (d : Device) → IsSame (old.disk d) (mid.disk d)) (by : IsLoadBy old mid (Ok x))
    (reading : WritesOnly (λ d i. ⊥) old mid) (writes : WritesOnly (OnClosed x.drives mid (gate_place (slot_in x.slot))) mid new)
    (left : List Bool) (dropped : (i : ℕ) → i < mid.drives → IsMember x.drives i → IsMember left i ⊎ Rises (mid.disk (drive i)).faults (new.disk (drive i)).faults) where
  left_or_failed : (i : ℕ) → i < old.drives → IsMember x.drives i → IsMember left i ⊎ (has_risen (old.disk (drive i)).faults (new.disk (drive i)).faults ≡ true)
  left_or_failed i lt m = grind (arith, nat_tests, risen, drive)

  few : missing_drives (geometry_of old) (not_holding (slot_in x.slot) x.record (showing old by.answered)) ≤ 2
  few = few_without old mid by.bytes by.answered by.all by.read (slot_in x.slot) x.record x.drives by.answer.held by.answer.enough

  -- too few are left
  pub seen_too_few : set_count left + 2 < old.drives → HasTooFew old new
  seen_too_few lack = too_few old mid by.bytes by.answered by.all by.read (slot_in x.slot) x.record x.drives by.answer.held new after left left_or_failed lack (λ many. absurd (omega (arith, many, few)))

  -- those that are left show it
  pub shown_on : ((i : ℕ) → i < mid.drives → IsMember left i → is_open (gate_place (slot_in x.slot)) (new.disk (drive i)).bytes ≡ true) → ((i : ℕ) → IsMember left i → IsMember x.drives i)
      → (i : ℕ) → IsMember left i → shown_by (slot_in x.slot) (new.disk (drive i)).bytes ≡ Some (spelling x.record)
  shown_on opened fewer i m =
      let slot = slot_in x.slot in
      let held = by.answer.held in
      let lt = below old mid by.bytes by.answered by.all by.read slot x.record x.drives held i (fewer i m) in
      let stands = stands_on old mid by.bytes by.answered by.all by.read slot x.record x.drives held i (fewer i m) in
      open_shows slot (new.disk (drive i)).bytes (spelling x.record) (opened i (omega (arith, lt, on.drives)) m)
      (bodies_same slot (mid.disk (drive i)).bytes (new.disk (drive i)).bytes (writes.device (drive i)).size (λ k out. (writes.device (drive i)).bytes k (λ w. out w.1)) slot
      ∙ ap (body_in slot) (same (drive i)).bytes ∙ stands)

  pub shown_in : (r : BootRecord) (s : Slot) → r ≡ x.record → s ≡ x.slot
      → ((i : ℕ) → i < mid.drives → IsMember left i → is_open (gate_place (slot_in x.slot)) (new.disk (drive i)).bytes ≡ true) → ((i : ℕ) → IsMember left i → IsMember x.drives i)
      → (i : ℕ) → IsMember left i → shown_by (slot_in s) (new.disk (drive i)).bytes ≡ Some (spelling r)
  shown_in r s record_is slot_is opened fewer i m = grind (arith, nat_tests, slot_in, drive, shown_on)

  -- a settling writes gates alone
  low_gate : (at : ℕ) → IsIn (record { start = gate_place (slot_in x.slot); size = SECTOR_BYTES }) at → at / UNIT_BYTES < BOOT_UNITS
  low_gate at is = omega (arith, is.1, gate_low (slot_in x.slot))

  only_boot : DiffersOnlyIn (λ drive unit. unit < BOOT_UNITS) (read_now old).image (read_now new).image
  only_boot = record {
    nvram = λ n. ext_get_or 0 (new.disk (nvram n)).bytes (old.disk (nvram n)).bytes ((writes.device (nvram n)).size ∙ ap length (same (nvram n)).bytes)
        (λ i lt. (writes.device (nvram n)).bytes i (λ w. w) ∙ ap (λ (l : List ℕ). slice_index l i) (same (nvram n)).bytes);
    size = λ i. (writes.device (drive i)).size ∙ ap length (same (drive i)).bytes;
    drive = λ i at. elim (cases_lt (at / UNIT_BYTES) BOOT_UNITS) [
      | inl low ↦ inr low
      | inr high ↦ inl ((writes.device (drive i)).bytes at (λ w. absurd (omega (arith, high, low_gate at w.1))) ∙ ap (λ (l : List ℕ). slice_index l at) (same (drive i)).bytes)
    ];
  }

  bodies : (slot : BootSlot) (i : ℕ) → body_in slot (new.disk (drive i)).bytes ≡ body_in slot (old.disk (drive i)).bytes
  bodies slot i = bodies_same (slot_in x.slot) (mid.disk (drive i)).bytes (new.disk (drive i)).bytes (writes.device (drive i)).size (λ k out. (writes.device (drive i)).bytes k (λ w. out w.1)) slot ∙ ap (body_in slot) (same (drive i)).bytes

  seen_with : ((i : ℕ) → IsMember left i → IsMember x.drives i) → IsSeenIn old new (record { «record» = x.record; slot = x.slot; drives = left })
  seen_with fewer =
      let held = by.answer.held in
      let effective = gives old mid by.bytes by.answered by.all by.read (slot_in x.slot) (spelling x.record) held.effective in
      let shows = shown old mid by.bytes by.answered by.all by.read in
      record {
        view = showing old by.answered;
        shown = shows;
        nvrams = nvrams old mid by.bytes by.answered by.all by.read;
        silent = silent old mid by.bytes by.answered by.all by.read new after;
        effective = effective;
        enough = few;
        held = λ i m. member_showed old mid by.bytes by.answered by.all by.read (slot_in x.slot) x.record x.drives held i (fewer i m);
        dropped = λ i lt. elim (cases_Bool (slice_index_or x.drives i false)) [
          | inl m ↦ elim (left_or_failed i lt m) [ inl is ↦ inl is | inr rose ↦ inr (inr rose) ]
          | inr none ↦ inr (inl (other_hid old mid by.bytes by.answered by.all by.read (slot_in x.slot) x.record x.drives held i lt none))
        ];
        only_boot = only_boot;
        bodies = bodies;
        given = λ missing arrays enters. given_from old missing arrays enters (showing old by.answered) shows (record { «record» = x.record; slot = x.slot; drives = left }) held.lawful effective mid new x.drives on same reading writes;
      }

  -- as it was settled
  pub seen_in : (r : BootRecord) (s : Slot) → r ≡ x.record → s ≡ x.slot → ((i : ℕ) → IsMember left i → IsMember x.drives i) → IsSeenIn old new (record { «record» = r; slot = s; drives = left })
  seen_in r s record_is slot_is fewer = grind (arith, nat_tests, seen_with)
