-- Free units of an open array were written: what a stop in these writes leaves, and what its drives show after them.
use Rattle.array_core.proofs.Prelude.{nat_tests, ◌≡◌, inl, inr, ℕ, ◌+◌, ◌≤◌, ◌<◌, List, [], ◌∷◌, refl, sym, ap, subst, arith, Bool, true, false, slice_index, Geometry, Conditions, Sound, LeftOut, IsBearable, IsWithin, drive, nvram, Device, BootRecord, spelling, BootSlot, A, B, body_in, body_place, gate_place, generation_in, names, other_slot, shown_by, Yields, MayBeGiven, bytes_same, more_may_go_missing, geometry_of, has_risen, Shelved, Stop, IsShelf, IsInSome, MayStop, Span, LeavesBut, weaker, may_leave_but, counted_then, left_out_once, named_sound, risen_on_way, IsMember, IsOlder, losing_within, Register, drives_of, next_slot, Content, IsOpen, MayStore, array_of, in_cut, cut_in, fewer_cut, OnFree, WritesFree, AreSynced, IsKnownOf, lost_since, lost_by, IsKeptAt, sound_since, WroteFree}
use Rattle.array_core.proofs.Kept.{free_writes_may_store}
use Rattle.array_core.proofs.Standing.{member_clean, member_sound, still}
use Rattle.array_core.specs.Meanwhile.{FreeWritesGoOn}
use Rattle.array_core.proofs.Alone.{alone_in}
use Rattle.array_core.proofs.Storing as storing
use Rattle.array_core.proofs.Keeping.{KeptNamed, NamesFewer, both_not, goes_on, kept}
use Rattle.array_core.proofs.Kept.{not_free}
use Rattle.register.proofs.Opened.{is_left, is_named}
use Rattle.register.proofs.Rounds.{same_shelf}

body_low : (slot : BootSlot) → body_place slot + 65536 ≤ 196608
body_low A = omega arith
body_low B = omega arith

gate_low : (slot : BootSlot) → gate_place slot < 196608
gate_low A = omega arith
gate_low B = omega arith

module _ (old : Shelved) (is : IsShelf old) (h : old.honest) (r : Register) (members : List Bool) (held : Content) (o : IsOpen old r members held) where
  -- a stop while they are written
  module _ (stop : Stop) (left : LeavesBut (OnFree r held) old stop) where
    boot_same : (i : ℕ) → IsMember (drives_of r) i → (at : ℕ) → at < 196608 → slice_index (stop.image (drive i)) at ≡ slice_index (old.disk (drive i)).bytes at
    boot_same i m at low = (left.bytes (drive i)).same at (λ dirty. subst (λ (l : List Span). IsInSome l at) (member_clean old is h r members held o i m) dirty) (not_free r held i at low)

    shown_is : (i : ℕ) → IsMember (drives_of r) i → (slot : BootSlot) → shown_by slot (stop.image (drive i)) ≡ shown_by slot (old.disk (drive i)).bytes
    shown_is i m slot =
        let gate : slice_index (stop.image (drive i)) (gate_place slot) ≡ slice_index (old.disk (drive i)).bytes (gate_place slot) = boot_same i m (gate_place slot) (gate_low slot) in
        let body : body_in slot (stop.image (drive i)) ≡ body_in slot (old.disk (drive i)).bytes =
        bytes_same (stop.image (drive i)) (old.disk (drive i)).bytes (body_place slot) 65536 (left.bytes (drive i)).size (λ at low high. boot_same i m at (let k = body_low slot in omega (arith, high, k))) in
        rw gate (rw body refl)

    pub alone_then : (later : Conditions) → IsWithin (named_sound r.record) later → (slot : BootSlot) (boot : BootRecord) → MayBeGiven (geometry_of old) stop.image later slot boot → boot ≡ r.record
    alone_then later within slot boot g = (alone_in old is r members held o stop.image later within shown_is slot boot g).1

    kept_named : KeptNamed old r.record (array_of held ∷ []) stop
    kept_named borne =
        let failed : Device → Bool = λ d. has_risen (old.disk d).write_faults (stop.write_faults d) in
        let within : IsWithin (named_sound r.record) (lost_by old stop (named_sound r.record)) = losing_within failed (named_sound r.record) in
        goes_on (geometry_of old) r.record stop.image failed (array_of held ∷ [])
        (λ slot boot g. subst (λ (b : BootRecord). NamesFewer r.record b) (sym (alone_then (lost_by old stop (named_sound r.record)) within slot boot g)) (λ d e. e))
        (more_may_go_missing (geometry_of old) stop.image (named_sound r.record) (lost_by old stop (named_sound r.record)) (array_of held ∷ []) within borne (still old is h r members held o stop left))

    pub kept_then : IsKeptAt old r.record (array_of held ∷ []) stop
    kept_then = kept old r.record (array_of held ∷ []) stop (λ d. (left.bytes d).is_byte) kept_named

  -- once they were written
  module _ (new : Shelved) (w : WritesFree r held old new) where
    -- what a stop leaves then
    pub left_then : (stop : Stop) → MayStop new stop → LeavesBut (OnFree r held) old stop
    left_then stop may = record { bytes = λ d. may_leave_but (w.writes.device d) (may.device d); counts = counted_then w.writes.counts may.counts }

    same_body : (slot : BootSlot) (i : ℕ) → body_in slot (new.disk (drive i)).bytes ≡ body_in slot (old.disk (drive i)).bytes
    same_body slot i = bytes_same (new.disk (drive i)).bytes (old.disk (drive i)).bytes (body_place slot) 65536 (w.writes.device (drive i)).size
        (λ at low high. (w.writes.device (drive i)).bytes at (not_free r held i at (let k = body_low slot in omega (arith, high, k))))

    module _ (now : Register) (same : now.record ≡ r.record) (fewer : (i : ℕ) → IsMember now.drives i → IsMember r.drives i) where
      among : (i : ℕ) → IsMember (drives_of now) i → IsMember (drives_of r) i
      among i m = fewer_cut r now (ap (λ (b : BootRecord). b.slots) same) fewer i m

      pub older_then : (i : ℕ) → IsMember (drives_of now) i → IsOlder new (next_slot now.record) (spelling now.record) i
      older_then i m = subst (λ (b : BootRecord). IsOlder new (next_slot b) (spelling b) i) (sym same)
          (subst (λ (b : List ℕ). Yields (other_slot (next_slot r.record)) (generation_in b) (generation_in (spelling r.record))) (sym (same_body (next_slot r.record) i))
          (o.older i (among i m) (member_sound old is h r members held o i (among i m))))

pub free_writes_go_on : (start now : Shelved) → IsShelf start → FreeWritesGoOn start now
free_writes_go_on start now is h r members held o w = weaker (λ stop left. kept_then start is h r members held o stop left) w.writes.any_moment

-- ---- drives were lost meanwhile

module _ (start m : Shelved) (is : IsShelf start) (is_m : IsShelf m) (h : start.honest) (was now : Register) (lost members : List Bool) (held : Content) (o : IsOpen start was members held) (w : WroteFree start m was lost held)
    (same : now.record ≡ was.record) (fewer : (i : ℕ) → IsMember now.drives i → IsMember was.drives i × ¬ (IsMember lost i)) (left : (i : ℕ) → IsMember was.drives i × ¬ (IsMember lost i) → IsMember now.drives i) where
  cut : (i : ℕ) → IsMember (drives_of now) i → IsMember (drives_of was) i
  cut i x = fewer_cut was now (ap (λ (b : BootRecord). b.slots) same) (λ k y. (fewer k y).0) i x

  synced : AreSynced m now
  synced i x = elim (w.synced i (cut i x)) [
    | inl is ↦ absurd ((fewer i (in_cut now.drives now.record.slots i x)).1 is)
    | inr clean ↦ clean
  ]

  lost_within : IsWithin (named_sound was.record) (lost_since start m (named_sound was.record))
  lost_within = losing_within (λ d. has_risen (start.disk d).write_faults (m.disk d).write_faults) (named_sound was.record)

  sound_named : (d : Device) → lost_since start m (named_sound was.record) d ≡ Sound → names was.record d ≡ true
  sound_named d s = is_named (names was.record d) (sound_since (has_risen (start.disk d).write_faults (m.disk d).write_faults) (named_sound was.record d) s).0

  out_unnamed : (d : Device) → lost_since start m (named_sound was.record) d ≡ LeftOut → names was.record d ≡ false
  out_unnamed d out = is_left (names was.record d) (left_out_once (has_risen (start.disk d).write_faults (m.disk d).write_faults) (named_sound was.record d) out)

  -- a drive that isn't missing isn't lost
  sound_left : (i : ℕ) → i < start.drives → lost_since start m (named_sound was.record) (drive i) ≡ Sound → IsMember (drives_of now) i
  sound_left i lt s = grind (arith, nat_tests, sound_since, has_risen, drive, named_sound, drives_of, cut_in, in_cut, risen_on_way)

  known : IsBearable (geometry_of start) (lost_since start m (named_sound was.record)) → IsKnownOf m now members (lost_since start m (named_sound was.record))
  known bears = grind (arith, nat_tests, named_sound, same_shelf, sound_left, sound_named, nvram, both_not, names, out_unnamed)

  pub may_store_left : IsBearable (geometry_of start) (lost_since start m (named_sound was.record)) → MayStore m now members (lost_since start m (named_sound was.record)) held (array_of held ∷ [])
  may_store_left bears = free_writes_may_store start m is is_m h was now members held (lost_since start m (named_sound was.record)) o w.free synced same (λ i x. (fewer i x).0) (known bears)

  pub alone_left : (stop : Stop) (slot : BootSlot) (boot : BootRecord) → MayStop m stop → MayBeGiven (geometry_of m) stop.image (lost_since start m (named_sound was.record)) slot boot → boot ≡ was.record
  alone_left stop slot boot may g = alone_then start is h was members held o stop (left_then start is h was members held o m w.free stop may) (lost_since start m (named_sound was.record)) lost_within slot boot
      (subst (λ (k : Geometry). MayBeGiven k stop.image (lost_since start m (named_sound was.record)) slot boot) (sym (same_shelf w.free.continues)) g)

  pub older_left : (i : ℕ) → IsMember (drives_of now) i → IsOlder m (next_slot now.record) (spelling now.record) i
  older_left i x = older_then start is h was members held o m w.free now same (λ k y. (fewer k y).0) i x

  pub may_leave : storing.MayLeave start m was now members members held held (array_of held ∷ [])
  may_leave = record {
    on = w.free.continues;
    was_open = o;
    same = same;
    fewer = λ i x. (fewer i x).0;
    fewer_logs = λ n x. x;
    older = older_left;
    may = may_store_left;
    alone = λ bears stop slot boot may g. alone_left stop slot boot may g;
  }

-- none of the record's drives is lost
pub all_synced : (start m : Shelved) (was now : Register) (lost : List Bool) (held : Content) → WroteFree start m was lost held → now ≡ was → ((i : ℕ) → IsMember now.drives i → IsMember was.drives i × ¬ (IsMember lost i)) → AreSynced m was
all_synced start m was now lost held w same fewer i x = grind (arith, nat_tests, synced, in_cut)
