-- One store of the next record.
use Rattle.register.proofs.Prelude.{nat_tests, ◌≡◌, inl, inr, ℕ, zero, suc, ◌+◌, ◌-◌, ◌^◌, ◌≤◌, ◌<◌, List, [], ◌∷◌, ◌++◌, length, take, drop, refl, sym, ◌∙◌, ap, subst, arith, Bool, true, false, slice_index, slice_index_or, get_or-drop, cases_Bool, get_or_append_left, get_or-append_right, Device, Geometry, Conditions, IsBearable, IsWithin, drive, nvram, Array, RECORD_BYTES, BootRecord, IsBootRecord, set_count, spelling, BootSlot, A, B, IsRecordOf, names, other_slot, body_in, body_place, generation_in, Yields, MayBeGiven, TablesHold, next_holds, bytes_same, counted, sound_before, twice_other, was_left_out, Shelved, Disk, Stop, IsShelf, IsInSome, MayLeave, MayStop, Continues, LeavesOnly, geometry_of, ChangesOnly, LeavesBut, Runs, weaker, IsMember, IsOneOf, DroppedFailed, OnSlot, Shows, IsInStore, HeldStill, IsOlder, IsFirmOn, IsInForceOn, IsNewer, IsStored, IsStoredIn, IsStoredOn, MayFollow, StandsAgain, StandsBut, shown_body, Register, IsRegisterOf, OnSlots, drives_of, own_slot, next_slot, next_record, AreShown, Content, IsNextOf, GivesOldOrNext, IsInStoreOf, StillGiven, StandsInLog, IsFirm, MayStore, MayStoreAgain, MayStoreFirmly, fewer_mask, in_cut, cut_in, none_past, cut_length}
use Rattle.nvram_log.specs.Members as nv
use Rattle.register.proofs.Numbers.{generation_spelled, next_other, lower_yields}
use Rattle.register.proofs.Back.{is_next_of, stands_back}
use Rattle.register.proofs.Follows.{may_follow}
use Rattle.register.proofs.Splice.{in_boot, at_splice, splice_stops, splice_bodies, splice_boot}
use Rattle.nvram_log.proofs.SettledEach.{both_leave}

-- ---- the next record is lawful

some_set : (xs : List Bool) (i : ℕ) → IsMember xs i → 1 ≤ set_count xs
some_set [] i m = absurd (cc m)
some_set (true ∷ xs) i m = omega (arith, counted (λ b. b) true xs)
some_set (false ∷ xs) zero m = absurd (cc m)
some_set (false ∷ xs) (suc i) m = omega (arith, some_set xs i m, counted (λ b. b) false xs)

one_set : (flags : List Bool) → length flags ≡ 2 → 1 ≤ set_count flags → nv.IsSome flags
one_set (true ∷ b ∷ []) two one = inl refl
one_set (false ∷ true ∷ []) two one = inr refl
one_set (false ∷ false ∷ []) two one = absurd (omega (arith, one, counted (λ (b : Bool). b) false (false ∷ []), counted (λ (b : Bool). b) false []))
one_set [] two one = absurd (omega (arith, two))
one_set (a ∷ []) two one = absurd (omega (arith, two))
one_set (a ∷ b ∷ c ∷ rest) two one = absurd (omega (arith, two))

-- a lawful record names an NVRAM device
pub some_named : (boot : BootRecord) → IsBootRecord boot → nv.IsSome boot.members.nvrams
some_named boot is = one_set boot.members.nvrams is.members.nvram_flags is.members.nvrams

pub next_lawful : (boot : BootRecord) (drives nvrams : List Bool) → IsBootRecord boot → length drives ≡ 24 → length nvrams ≡ 2 → ((i : ℕ) → IsMember drives i → IsMember boot.members.drives i)
    → boot.slots ≤ set_count drives + 2 → nv.IsSome nvrams → boot.generation + 1 < 2 ^ 48 → IsBootRecord (next_record boot drives nvrams)
next_lawful boot drives nvrams is all two among enough some low = grind (arith, nat_tests, fewer_mask, some_set)

-- ---- the other slot

apart : (members : List Bool) (s : BootSlot) (i k : ℕ) → body_place (other_slot s) ≤ k → k < body_place (other_slot s) + RECORD_BYTES → OnSlot members s (drive i) k → ⊥
apart members A i k low high (inl w) = omega (arith, low, high, w.1.0, w.1.1)
apart members A i k low high (inr w) = omega (arith, low, high, w.1.0, w.1.1)
apart members B i k low high (inl w) = omega (arith, low, high, w.1.0, w.1.1)
apart members B i k low high (inr w) = omega (arith, low, high, w.1.0, w.1.1)

pub other_body : (members : List Bool) (s : BootSlot) (i : ℕ) (old new : Disk) → ChangesOnly (OnSlot members s (drive i)) old new → body_in (other_slot s) new.bytes ≡ body_in (other_slot s) old.bytes
other_body members s i old new changes = bytes_same new.bytes old.bytes (body_place (other_slot s)) RECORD_BYTES changes.size (λ k low high. changes.bytes k (apart members s i k low high))

pub on_slots : (members : List Bool) (s : BootSlot) (d : Device) (i : ℕ) → OnSlot members s d i → OnSlots members d i
on_slots members A d i w = inl w
on_slots members B d i w = inr w

-- ---- what the call promises

-- the body was stored in the slot of these members, some of which the register has left, or the call ended early
pub record Puts (ok : Type 0) (old new : Shelved) (now : Register) (members : List Bool) (slot : BootSlot) (body : List ℕ) : Type 0 where
  pub fewer : (i : ℕ) → IsMember (drives_of now) i → IsMember members i
  pub dropped : DroppedFailed old new members (drives_of now)
  pub shown : ok → old.honest → (i : ℕ) → IsMember (drives_of now) i → Shows new slot body i
  pub runs : Runs (IsOneOf members) (OnSlot members slot) old new
  pub moments : old.honest → LeavesOnly old new (IsInStore old members slot body)
  pub again : old.honest → (missing : Conditions) (held boot : BootRecord) (arrays : List Array) → body ≡ spelling boot → IsFirmOn old members missing slot held → MayFollow old missing slot boot arrays
      → LeavesOnly old new (StandsAgain old missing arrays)
  pub stored_on : ok → old.honest → (missing : Conditions) (held boot : BootRecord) (arrays : List Array) → body ≡ spelling boot → IsNewer slot held boot → IsFirmOn old members missing slot held → MayFollow old missing slot boot arrays
      → IsStoredOn old new (drives_of now) missing slot boot arrays
  pub stored : ok → old.honest → (missing : Conditions) (held boot : BootRecord) (arrays : List Array) → body ≡ spelling boot → IsNewer slot held boot → IsInForceOn old members missing slot held → MayFollow old missing slot boot arrays
      → IsStoredIn old new members (drives_of now) missing slot held boot arrays

-- in the words of the record before
pub puts_next : {ok : Type 0} (old new : Shelved) (was mid now : Register) (boot : BootRecord) → boot.slots ≡ was.record.slots → own_slot boot ≡ next_slot was.record → mid.record ≡ boot → mid.drives ≡ was.drives → mid.body.items ≡ spelling mid.record
    → Puts ok old new now (drives_of mid) (own_slot mid.record) mid.body.items → Puts ok old new now (drives_of was) (next_slot was.record) (spelling boot)
puts_next {ok} old new was mid now boot slots goes record_is drives_are body_is puts =
    let cut : drives_of mid ≡ drives_of was = ap (λ (b : BootRecord). take b.slots mid.drives) record_is ∙ ap (take boot.slots) drives_are ∙ ap (λ (n : ℕ). take n was.drives) slots in
    let slot : own_slot mid.record ≡ next_slot was.record = ap own_slot record_is ∙ goes in
    let body : mid.body.items ≡ spelling boot = body_is ∙ ap spelling record_is in
    subst (λ (l : List ℕ). Puts ok old new now (drives_of was) (next_slot was.record) l) body
    (subst (λ (t : BootSlot). Puts ok old new now (drives_of was) t mid.body.items) slot
    (subst (λ (l : List Bool). Puts ok old new now l (own_slot mid.record) mid.body.items) cut puts))

-- then each of the drives shows the record
pub shown_put : {ok : Type 0} {old new : Shelved} {now : Register} {members : List Bool} {slot : BootSlot} (boot : BootRecord) → own_slot boot ≡ slot → now.record ≡ boot → Puts ok old new now members slot (spelling boot)
    → ok → old.honest → AreShown new now
shown_put {ok} {old} {new} {now} {members} {slot} boot goes kept puts stood h i m = grind (arith, nat_tests, spelling)

-- of the shelf's drives all that are left are in the slots of its record
pub cut_drives : (shelf : Geometry) (r : Register) → IsRegisterOf shelf r → (i : ℕ) → IsMember r.drives i → IsMember (drives_of r) i
cut_drives shelf r is_of i m = grind (arith, nat_tests, cut_in, none_past)

-- and so are those that a call has left of them
pub cut_left : {shelf : Geometry} {r : Register} → IsRegisterOf shelf r → (members : List Bool) (i : ℕ) → length members ≡ r.record.slots → IsMember (members ++ drop r.record.slots r.drives) i → IsMember members i
cut_left {shelf} {r} is_of members i all m = grind (arith, nat_tests, get_or_append_left, none_past, get_or-append_right, get_or-drop, slice_index_or)

pub same_shelf : {old new : Shelved} → Continues old new → geometry_of old ≡ geometry_of new
same_shelf {old} {new} on = grind (arith, nat_tests)

-- what a store leaves of the units behind the boot region, as a stop before it might have
module _ {ok : Type 0} (old new : Shelved) (h : old.honest) (now : Register) (members : List Bool) (slot : BootSlot) (body : List ℕ) (puts : Puts ok old new now members slot body) (start : Stop) (may : MayStop new start) where
  pub long : (i : ℕ) → length (old.disk (drive i)).bytes ≡ length (start.image (drive i))
  long i = sym (((puts.runs.writes h).device (drive i)).size) ∙ sym (may.device (drive i)).size

  pub same_behind : (d i : ℕ) → 196608 ≤ i → (IsInSome (old.disk (drive d)).dirty i → ⊥) → slice_index (start.image (drive d)) i ≡ slice_index (old.disk (drive d)).bytes i
  same_behind d i le not = grind (arith, nat_tests, drive, in_boot)

  pub log_then : (n : ℕ) → MayLeave (old.disk (nvram n)) (start.image (nvram n))
  log_then n = subst (λ (d : Disk). MayLeave d (start.image (nvram n))) (puts.runs.others (nvram n) (λ x. x)) (may.device (nvram n))

module _ {ok : Type 0} (old new : Shelved) (is_old : IsShelf old) (on : Continues old new) (was now : Register) (nvrams : List Bool) (is_of : IsRegisterOf (geometry_of old) was) (some : nv.IsSome nvrams)
    (lawful : IsBootRecord (next_record was.record was.drives nvrams)) (kept : now.record ≡ next_record was.record was.drives nvrams)
    (its_register : IsRegisterOf (geometry_of new) now)
    (puts : Puts ok old new now (drives_of was) (next_slot was.record) (spelling (next_record was.record was.drives nvrams))) where
  cut : (i : ℕ) → IsMember was.drives i → IsMember (drives_of was) i
  cut i m = cut_drives (geometry_of old) was is_of i m

  nvram_same : (n : ℕ) → new.disk (nvram n) ≡ old.disk (nvram n)
  nvram_same n = puts.runs.others (nvram n) (λ x. x)

  module _ (h : old.honest) (held : Content) (logged : StandsInLog old was nvrams held) (stood : ok) where
    body_stands : (i : ℕ) → IsMember (drives_of now) i → body_in (next_slot was.record) (new.disk (drive i)).bytes ≡ spelling (next_record was.record was.drives nvrams)
    body_stands i m = shown_body (next_slot was.record) (new.disk (drive i)).bytes (spelling (next_record was.record was.drives nvrams)) (puts.shown stood h i m).shown

    own_is : own_slot (next_record was.record was.drives nvrams) ≡ next_slot was.record
    own_is = next_other was.record.generation

    -- its tables hold whatever a stop leaves
    module _ (start : Stop) (may : MayStop new start) where
      abbrev long_then : (i : ℕ) → length (old.disk (drive i)).bytes ≡ length (start.image (drive i))
      long_then = long old new h now (drives_of was) (next_slot was.record) (spelling (next_record was.record was.drives nvrams)) puts start may

      abbrev same_then : (d i : ℕ) → 196608 ≤ i → (IsInSome (old.disk (drive d)).dirty i → ⊥) → slice_index (start.image (drive d)) i ≡ slice_index (old.disk (drive d)).bytes i
      same_then = same_behind old new h now (drives_of was) (next_slot was.record) (spelling (next_record was.record was.drives nvrams)) puts start may

      abbrev nvram_then : (n : ℕ) → MayLeave (old.disk (nvram n)) (start.image (nvram n))
      nvram_then = log_then old new h now (drives_of was) (next_slot was.record) (spelling (next_record was.record was.drives nvrams)) puts start may

      held_now : TablesHold (geometry_of new) start.image (own_slot (next_record was.record was.drives nvrams)) (next_record was.record was.drives nvrams) held.patches held.base
      held_now = subst (λ g. TablesHold g start.image (own_slot (next_record was.record was.drives nvrams)) (next_record was.record was.drives nvrams) held.patches held.base) (same_shelf on)
          (next_holds (geometry_of old) (at_splice old (is_old.bytes h) start.image long_then (λ d. (may.device d).is_byte) same_then nvram_then).image start.image (own_slot was.record) (own_slot (next_record was.record was.drives nvrams))
          was.record (next_record was.record was.drives nvrams) held.patches held.base is_of.lawful refl
          (λ i m body. (is_of.named i m, splice_bodies old (is_old.bytes h) start.image long_then (λ d. (may.device d).is_byte) same_then nvram_then (own_slot was.record) i ∙ logged.bodies i (cut i m)))
          (splice_boot old (is_old.bytes h) start.image long_then (λ d. (may.device d).is_byte) same_then nvram_then)
          (logged.tables (at_splice old (is_old.bytes h) start.image long_then (λ d. (may.device d).is_byte) same_then nvram_then) (splice_stops old (is_old.bytes h) start.image long_then (λ d. (may.device d).is_byte) same_then nvram_then)))

    pub logged_next : StandsInLog new now nvrams held
    logged_next = grind (arith, nat_tests, held_now, next_record, own_is, body_stands, nvram_same)

    older_body : (i : ℕ) → IsMember (drives_of now) i → body_in (own_slot was.record) (new.disk (drive i)).bytes ≡ spelling was.record
    older_body i m =
        subst (λ (t : BootSlot). body_in t (new.disk (drive i)).bytes ≡ body_in t (old.disk (drive i)).bytes) (twice_other (own_slot was.record))
        (other_body (drives_of was) (next_slot was.record) i (old.disk (drive i)) (new.disk (drive i)) ((puts.runs.writes h).device (drive i)))
        ∙ logged.bodies i (puts.fewer i m)

    newer : (slot : BootSlot) → Yields slot (generation_in (spelling was.record)) (generation_in (spelling (next_record was.record was.drives nvrams)))
    newer slot = grind (arith, nat_tests, generation_spelled, next_record, lower_yields)

    pub older_next : (i : ℕ) → IsMember (drives_of now) i → IsOlder new (next_slot now.record) (spelling now.record) i
    older_next i m = grind (arith, nat_tests, next_record, own_is, twice_other, older_body, newer)

  module _ (h : old.honest) (not_spent : was.record.generation + 1 < 2 ^ 48 - 8) (missing : Conditions) (held : Content) (arrays : List Array) (may : MayStore old was nvrams missing held arrays) where
    among : (i : ℕ) → IsMember (drives_of was) i → IsMember was.drives i
    among i m = in_cut was.drives was.record.slots i m

    next_lawful_of : IsRecordOf (geometry_of old) (next_record was.record was.drives nvrams)
    next_lawful_of = record { lawful = lawful; slots = is_of.lawful.slots; units = is_of.lawful.units }

    follow : MayFollow old missing (next_slot was.record) (next_record was.record was.drives nvrams) arrays
    follow = may_follow old is_old was.record (drives_of was) was.drives nvrams missing held arrays is_of.lawful next_lawful_of not_spent (is_old.bytes h) may.logged.tables
        (λ i m. (is_of.named i m, may.logged.bodies i (cut i m))) among some may.logged.holds may.logged.accepted may.in_force may.stands may.one_of may.sound may.left_out may.unnamed

    stands_next : (stop : Stop) → IsInStore old (drives_of was) (next_slot was.record) (spelling (next_record was.record was.drives nvrams)) stop → StandsBut old (drives_of was) missing (next_slot was.record) was.record arrays stop
    stands_next stop at = at.stands missing was.record (next_record was.record was.drives nvrams) arrays refl may.in_force follow

    gives_next : (stop : Stop) → IsInStore old (drives_of was) (next_slot was.record) (spelling (next_record was.record was.drives nvrams)) stop → GivesOldOrNext old was nvrams missing stop
    gives_next stop at later account slot boot g = elim (at.gives missing was.record (next_record was.record was.drives nvrams) arrays refl may.in_force follow later account slot boot g) [
      | inl e ↦ inr (subst (λ (b : BootRecord). IsNextOf was nvrams b) (sym e.1) (is_next_of was nvrams))
      | inr given ↦ inl given
    ]

    -- where the record was stored in later conditions the next one may be stored
    may_store_then : ok → (later : Conditions) → IsWithin missing later → IsStored new (drives_of now) (next_slot was.record) (next_record was.record was.drives nvrams) arrays later → MayStore new now nvrams later held arrays
    may_store_then stood later within s = record {
      logged = logged_next h held may.logged stood;
      in_force = subst (λ (b : BootRecord). IsInForceOn new (drives_of now) later (next_slot b) b) (sym kept)
          (subst (λ (t : BootSlot). IsInForceOn new (drives_of now) later (other_slot t) (next_record was.record was.drives nvrams)) (sym (next_other was.record.generation)) s.in_force);
      stands = s.stands;
      one_of = may.one_of;
      sound = λ n lt e. may.sound n lt (sound_before (missing (nvram n)) (later (nvram n)) (within (nvram n)) e);
      left_out = λ n e m. may.left_out n (was_left_out (missing (nvram n)) (later (nvram n)) (within (nvram n)) e) m;
      unnamed = λ i e. subst (λ (b : BootRecord). names b (drive i) ≡ false) (sym kept) (elim (cases_Bool (slice_index_or was.drives i false)) [
        | inl m ↦ absurd (cc (is_of.named i m, may.unnamed i (was_left_out (missing (drive i)) (later (drive i)) (within (drive i)) e)))
        | inr not ↦ not
      ]);
    }

    pub again_next : ok → MayStoreAgain old new was now nvrams missing held arrays
    again_next stood later account =
        may_store_then stood later account.within
        (puts.stored stood h missing was.record (next_record was.record was.drives nvrams) arrays refl (newer h held may.logged stood (next_slot was.record)) may.in_force follow later account)

    -- whatever fails
    firm_on : length was.drives ≡ 24 → IsFirm old was missing → IsFirmOn old (drives_of was) missing (next_slot was.record) was.record
    firm_on flags firm = record {
      in_force = may.in_force;
      as_many = cut_length was flags is_of;
      sound = firm.sound;
      older = firm.older;
    }

    pub outlasts_next : length was.drives ≡ 24 → IsFirm old was missing → LeavesOnly old new (StandsAgain old missing arrays)
    outlasts_next flags firm = puts.again h missing was.record (next_record was.record was.drives nvrams) arrays refl (firm_on flags firm) follow

    pub firmly_next : ok → length was.drives ≡ 24 → IsFirm old was missing → MayStoreFirmly old new now nvrams missing held arrays
    firmly_next stood flags firm later within bearable sound all = (
      may_store_then stood later within
          (puts.stored_on stood h missing was.record (next_record was.record was.drives nvrams) arrays refl (newer h held may.logged stood (next_slot was.record)) (firm_on flags firm) follow later within bearable sound),
      record {
        bearable = subst (λ g. IsBearable g later) (same_shelf on) bearable;
        sound = all;
        older = λ i m s. older_next h held may.logged stood i m;
      },
    )

  -- at each moment, whatever the conditions
  module _ (h : old.honest) (not_spent : was.record.generation + 1 < 2 ^ 48 - 8) where
    still_next : (held : Content) (stop : Stop) → HeldStill old (drives_of was) (next_slot was.record) stop → StillGiven old was nvrams held stop
    still_next held stop still missing arrays may later account given =
        subst (λ (t : BootSlot). MayBeGiven (geometry_of old) stop.image later t was.record) (twice_other (own_slot was.record))
        (still missing was.record may.in_force later account (λ start m. subst (λ (t : BootSlot). MayBeGiven (geometry_of old) start.image later t was.record) (sym (twice_other (own_slot was.record))) (given start m)))

    in_store_next : (stop : Stop) → IsInStore old (drives_of was) (next_slot was.record) (spelling (next_record was.record was.drives nvrams)) stop → LeavesBut (OnSlot (drives_of was) (next_slot was.record)) old stop → IsInStoreOf old was nvrams stop
    in_store_next stop at left = record {
      stands = λ missing held arrays may. stands_next h not_spent missing held arrays may stop at;
      gives = λ missing held arrays may. gives_next h not_spent missing held arrays may stop at;
      back = λ held logged shows. elim at.phase [
        | inl still ↦ inl (still_next held stop still)
        | inr opening ↦ inr (record {
          each = λ missing arrays may back m. stands_back old is_old was nvrams held some lawful not_spent shows (is_old.bytes h) cut stop opening left missing arrays may back m;
        })
      ];
    }

    pub moments_next : LeavesOnly old new (IsInStoreOf old was nvrams)
    moments_next = weaker (λ stop x. in_store_next stop x.0 x.1) (both_leave (puts.moments h) (puts.runs.writes h).any_moment)
