-- What stands once free units were written: the record with its tables and the log, and an open array once its drives are synced.
use Rattle.array_core.proofs.Prelude.{nat_tests, ◌≡◌, inl, inr, ℕ, ◌+◌, ◌-◌, ◌/◌, ◌^◌, ◌≤◌, ◌<◌, List, [], ◌∷◌, refl, sym, ◌∙◌, ap, subst, arith, Bool, Some, slice_index, Geometry, Conditions, drive, Device, BootRecord, spelling, BootSlot, A, B, IsRecordOf, body_in, body_place, gate_place, shown_by, generation_in, other_slot, Yields, bytes_same, twice_other, TablesHold, free_writes_keep, Shelved, Disk, Stop, MayStop, IsShelf, geometry_of, MayLeaveBut, may_leave_but, as_read, IsMember, Shows, IsOlder, Register, IsRegisterOf, drives_of, next_slot, own_slot, MayStore, Content, IsOpen, IsShown, ShowsOn, StandsInLog, array_of, in_cut, cut_in, not_below, OnFree, WritesFree, AreSynced, IsKnownOf, FreeWritesKeep, FreeWritesLeave, FreeWritesMayStore, PlansStand}
use Rattle.register.proofs.Resting.{may_store}
use Rattle.array_core.proofs.Before.{at_before, before_stops, differs}
use Rattle.array_core.proofs.Reopened.{not_spent, some, still_open}
use Rattle.array_core.proofs.Standing.{member_sound, member_clean}
use Rattle.register.proofs.Rounds.{same_shelf}

-- ---- boot units stay

body_low : (slot : BootSlot) → body_place slot + 65536 ≤ 196608
body_low A = omega arith
body_low B = omega arith

gate_low : (slot : BootSlot) → gate_place slot < 196608
gate_low A = omega arith
gate_low B = omega arith

pub not_free : (r : Register) (held : Content) (i at : ℕ) → at < 196608 → OnFree r held (drive i) at → ⊥
not_free r held i at low w = let unit : 3 ≤ at / 65536 = w.1.data_unit in omega (arith, low, unit)

module _ (old new : Shelved) (is : IsShelf old) (h : old.honest) (r now : Register) (nvrams : List Bool) (held : Content) (o : IsOpen old r nvrams held) (w : WritesFree r held old new)
    (kept : now.record ≡ r.record) (fewer : (i : ℕ) → IsMember now.drives i → IsMember r.drives i) where
  its_record : IsRecordOf (geometry_of new) now.record
  its_record = subst (λ (b : BootRecord). IsRecordOf (geometry_of new) b) (sym kept) (subst (λ (g : Geometry). IsRecordOf g r.record) (same_shelf w.continues) o.logged.is_of.lawful)

  its_register : IsRegisterOf (geometry_of new) now
  its_register = record {
    lawful = its_record;
    named = λ i m. subst (λ (b : BootRecord). IsMember b.members.drives i) (sym kept) (o.logged.is_of.named i (fewer i m));
  }

  among : (i : ℕ) → IsMember (drives_of now) i → IsMember (drives_of r) i
  among i m = grind (arith, nat_tests, cut_in, in_cut, not_below)

  tables_then : (start : Stop) → MayStop new start → TablesHold (geometry_of new) start.image (own_slot now.record) now.record held.patches held.base
  tables_then start may = subst (λ (b : BootRecord). TablesHold (geometry_of new) start.image (own_slot b) b held.patches held.base) (sym kept)
      (subst (λ (g : Geometry). TablesHold g start.image (own_slot r.record) r.record held.patches held.base) (same_shelf w.continues)
      (free_writes_keep (geometry_of old) (at_before old (is.bytes h) r held start.image left).image start.image (own_slot r.record) r.record held.patches held.base o.logged.is_of.lawful
      (differs old (is.bytes h) r held start.image left (member_clean old is h r nvrams held o))
      (o.logged.tables (at_before old (is.bytes h) r held start.image left) (before_stops old (is.bytes h) r held start.image left))))
    where
      left : (d : Device) → MayLeaveBut (OnFree r held d) (old.disk d) (start.image d)
      left d = may_leave_but (w.writes.device d) (may.device d)

  same_body : (slot : BootSlot) (i : ℕ) → body_in slot (new.disk (drive i)).bytes ≡ body_in slot (old.disk (drive i)).bytes
  same_body slot i = bytes_same (new.disk (drive i)).bytes (old.disk (drive i)).bytes (body_place slot) 65536 (w.writes.device (drive i)).size
      (λ at low high. (w.writes.device (drive i)).bytes at (not_free r held i at (let k = body_low slot in omega (arith, high, k))))

  same_shown : (slot : BootSlot) (i : ℕ) → shown_by slot (new.disk (drive i)).bytes ≡ shown_by slot (old.disk (drive i)).bytes
  same_shown slot i = grind (arith, nat_tests, slice_index, drive, gate_place, not_free, gate_low, same_body)

  shows_log : ShowsOn new nvrams r.record.flushed held.log
  shows_log = record {
    log = λ n lt m. subst (λ (d : Disk). IsShown d.bytes r.record.flushed held.log) (sym (w.nvrams n)) (o.logged.holds.log n lt m);
    clean = λ n lt m. subst (λ (d : Disk). d.dirty ≡ []) (sym (w.nvrams n)) (o.logged.holds.clean n lt m);
  }

  pub logged : StandsInLog new now nvrams held
  logged = record {
    is_of = its_register;
    tables = tables_then;
    bodies = λ i m. subst (λ (b : BootRecord). body_in (own_slot b) (new.disk (drive i)).bytes ≡ spelling b) (sym kept) (same_body (own_slot r.record) i ∙ o.logged.bodies i (among i m));
    holds = subst (λ (b : BootRecord). ShowsOn new nvrams b.flushed held.log) (sym kept) shows_log;
    accepted = o.logged.accepted;
  }

-- ---- some drives were lost

module _ (old new : Shelved) (is : IsShelf old) (is_new : IsShelf new) (h : old.honest) (r now : Register) (nvrams : List Bool) (held : Content) (known : Conditions)
    (o : IsOpen old r nvrams held) (w : WritesFree r held old new) (clean : AreSynced new now) (kept : now.record ≡ r.record) (fewer : (i : ℕ) → IsMember now.drives i → IsMember r.drives i)
    (is_known : IsKnownOf new now nvrams known) where
  shown_left : (i : ℕ) → IsMember (drives_of now) i → Shows new (own_slot now.record) (spelling now.record) i
  shown_left i m = record {
    clean = clean i m;
    shown = subst (λ (b : BootRecord). shown_by (own_slot b) (new.disk (drive i)).bytes ≡ Some (spelling b)) (sym kept)
        (same_shown old new is h r now nvrams held o w kept fewer (own_slot r.record) i
        ∙ subst (λ (t : BootSlot). shown_by t (old.disk (drive i)).bytes ≡ Some (spelling r.record)) (twice_other (own_slot r.record))
        (o.in_force.shown i (among old new is h r now nvrams held o w kept fewer i m) (member_sound old is h r nvrams held o i (among old new is h r now nvrams held o w kept fewer i m))));
  }

  older_left : (i : ℕ) → IsMember (drives_of now) i → IsOlder new (next_slot now.record) (spelling now.record) i
  older_left i m = subst (λ (b : BootRecord). IsOlder new (next_slot b) (spelling b) i) (sym kept)
      (subst (λ (b : List ℕ). Yields (other_slot (next_slot r.record)) (generation_in b) (generation_in (spelling r.record)))
      (sym (same_body old new is h r now nvrams held o w kept fewer (next_slot r.record) i))
      (o.older i (among old new is h r now nvrams held o w kept fewer i m) (member_sound old is h r nvrams held o i (among old new is h r now nvrams held o w kept fewer i m))))

  pub may_store_left : MayStore new now nvrams known held (array_of held ∷ [])
  may_store_left = may_store new is_new now nvrams held (array_of held ∷ []) (0, omega arith, refl) (logged old new is h r now nvrams held o w kept fewer)
      (subst (λ (b : BootRecord). b.members.nvrams ≡ nvrams) (sym kept) o.nvrams_are)
      (subst (λ (b : BootRecord). b.generation < 2 ^ 48 - 8) (sym kept) (not_spent old is h r nvrams held o)) (some old is h r nvrams held o) shown_left older_left known
      is_known.bearable is_known.drives is_known.logs is_known.no_log is_known.no_drive

-- ---- the open array

module _ (old new : Shelved) (is : IsShelf old) (h : old.honest) (r : Register) (nvrams : List Bool) (held : Content) (o : IsOpen old r nvrams held) (w : WritesFree r held old new) (clean : AreSynced new r) where
  pub logged_now : StandsInLog new r nvrams held
  logged_now = logged old new is h r r nvrams held o w refl (λ i m. m)

  pub shown_now : (i : ℕ) → IsMember (drives_of r) i → Shows new (own_slot r.record) (spelling r.record) i
  shown_now i m = record {
    clean = clean i m;
    shown = same_shown old new is h r r nvrams held o w refl (λ j x. x) (own_slot r.record) i
        ∙ subst (λ (t : BootSlot). shown_by t (old.disk (drive i)).bytes ≡ Some (spelling r.record)) (twice_other (own_slot r.record)) (o.in_force.shown i m (member_sound old is h r nvrams held o i m));
  }

  pub older_now : (i : ℕ) → IsMember (drives_of r) i → IsOlder new (next_slot r.record) (spelling r.record) i
  older_now i m = subst (λ (b : List ℕ). Yields (other_slot (next_slot r.record)) (generation_in b) (generation_in (spelling r.record)))
      (sym (same_body old new is h r r nvrams held o w refl (λ j x. x) (next_slot r.record) i)) (o.older i m (member_sound old is h r nvrams held o i m))

pub free_writes_leave : (old new : Shelved) → IsShelf old → FreeWritesLeave old new
free_writes_leave old new is h was now nvrams held o w kept fewer = logged old new is h was now nvrams held o w kept fewer

pub free_writes_keep_open : (old new : Shelved) → IsShelf old → IsShelf new → FreeWritesKeep old new
free_writes_keep_open old new is is_new h r nvrams held o w clean =
    still_open old is h r nvrams held o new is_new w.continues held (logged_now old new is h r nvrams held o w clean) (shown_now old new is h r nvrams held o w clean) (older_now old new is h r nvrams held o w clean)

pub free_writes_may_store : (old new : Shelved) → IsShelf old → IsShelf new → FreeWritesMayStore old new
free_writes_may_store old new is is_new h was now nvrams held known o w clean kept fewer is_known = may_store_left old new is is_new h was now nvrams held known o w clean kept fewer is_known

-- what a stop leaves of synced drives is what reads give
pub plans_stand : (shelf : Shelved) → PlansStand shelf
plans_stand shelf r tables held next clean logged keeps stand = record {
  keeps = keeps;
  stand = λ start may members some enough. stand members (λ i. elim (some i) [
    | inl none ↦ inl none
    | inr is ↦ inr (is.0, is.1 ∙ ap (λ (b : List ℕ). Some b) (as_read (shelf.disk (drive i)) (start.image (drive i)) (clean i is.0) (may.device (drive i))))
  ]) enough;
  logged = logged;
}
