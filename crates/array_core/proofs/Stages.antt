-- What one stage of the end of a checkpoint or a merge leaves for the next one.
use Rattle.array_core.proofs.Prelude.{nat_tests, ◌≡◌, ◌⊎◌, inl, inr, ℕ, ◌+◌, List, length, refl, sym, ◌∙◌, ap, subst, arith, Bool, true, Result, Ok, Err, OnOk, Device, Drive, Nv, Geometry, drive, nvram, BootRecord, IsBootRecord, names, DataHolds, Rises, geometry_of, Shelved, IsShelf, Continues, WritesOnly, continues_refl, data_moves, IsMember, DroppedFailed, HoldsOn, Register, Tables, IsLaterRecord, IsRegisterOf, OnSlots, drives_of, Content, IsOpen, IsPlanOf, KeepsArray, with_tables, in_cut, fewer_cut, AreLeft, LeavesFewer, AreLost}
use Rattle.nvram_log.specs.Members as nv
use Rattle.register.proofs.Rounds.{cut_drives, same_shelf}
use Rattle.array_core.proofs.Kept.{plans_stand}
use Rattle.array_core.proofs.Standing.{member_clean}
use Rattle.array_core.proofs.Keeping.{CameAfter}
use Rattle.array_core.proofs.LostOnWay.{rises_since}
use Rattle.array_core.proofs.Moved.{only_boot}

-- ---- results

-- what follows where the result is Ok, in which what is said of Ok holds
pub ok_if : {T E Q : Type 0} (r : Result T E) → (((P : Type 0) → OnOk r P → P) → Q) → OnOk r Q
ok_if (Ok t) f = f (λ P p. p)
ok_if (Err e) f = tt

-- ---- records

pub later_itself : (boot : BootRecord) → IsLaterRecord boot boot
later_itself boot = record { generation = omega arith; rest = refl }

-- ---- who is left

-- by fewer drives
pub left_among : {size : Geometry} {lost : List Bool} {m : ℕ} {was now : Register} {members left : List Bool} → now.record.slots ≡ was.record.slots → LeavesFewer size lost m was now members left
    → (i : ℕ) → IsMember (drives_of now) i → IsMember (drives_of was) i × ¬ (IsMember lost i)
left_among {was = was} {now = now} slots x i m = (fewer_cut was now slots (λ k y. (x.fewer k y).0) i m, (x.fewer i (in_cut now.drives now.record.slots i m)).1)

-- drives that were lost before, or in the store
pub left_dropped : (start a b : Shelved) → Continues start a → Continues a b → (was now : Register) (lost : List Bool) → AreLost start a was lost → AreLeft a b was now lost → DroppedFailed start b (drives_of was) (drives_of now)
left_dropped start a b first next was now lost are left i m = grind (arith, nat_tests, rises_since, continues_refl)

-- on none that is left a write failed, before or in the store
pub left_unlost : (start a b : Shelved) (was now : Register) (lost : List Bool) → AreLost start a was lost → AreLeft a b was now lost → ((i : ℕ) → IsMember (drives_of now) i → IsMember (drives_of was) i × ¬ (IsMember lost i))
    → (i : ℕ) → IsMember (drives_of now) i → (b.disk (drive i)).write_faults ≡ (start.disk (drive i)).write_faults
left_unlost start a b was now lost are left among i m = left.unlost i m ∙ are.spared i (among i m).0 (among i m).1

-- the record of an array that is open later, on fewer drives and with the same log devices
pub came_after : (start now : Shelved) (was r : Register) (members : List Bool) (held next : Content) → IsOpen start was members held → IsOpen now r members next
    → ((i : ℕ) → IsMember r.drives i → IsMember was.drives i) → DroppedFailed start now (drives_of was) (drives_of r) → CameAfter start now was.record r.record
came_after start now was r members held next o p fewer dropped = record { fewer = λ d e. named d e; dropped = λ d e. left d e }
  where
    named : (d : Device) → names r.record d ≡ true → names was.record d ≡ true
    named (Drive d) e = o.logged.is_of.named d.0 (fewer d.0 (subst (λ (l : List Bool). IsMember l d.0) p.drives e))
    named (Nv n) e = subst (λ (l : List Bool). nv.IsMember l n.0) (p.nvrams_are ∙ sym o.nvrams_are) e

    left : (d : Device) → names was.record d ≡ true → (names r.record d ≡ true) ⊎ Rises (start.disk d).write_faults (now.disk d).write_faults
    left (Drive d) e = elim (dropped d.0 (cut_drives (geometry_of start) was o.logged.is_of d.0 (subst (λ (l : List Bool). IsMember l d.0) o.drives e))) [
      | inl is ↦ inl (p.logged.is_of.named d.0 (in_cut r.drives r.record.slots d.0 is))
      | inr rose ↦ inr rose.write_faults
    ]
    left (Nv n) e = inl (subst (λ (l : List Bool). nv.IsMember l n.0) (o.nvrams_are ∙ sym p.nvrams_are) e)

-- ---- the tables

-- the tables stand on whichever drives aren't lost
abbrev pub StandUnlost : Shelved → Register → List Bool → Tables → Content → Type 0
StandUnlost now r lost tables next = (left : List Bool) → ((i : ℕ) → IsMember left i → IsMember (drives_of r) i × ¬ (IsMember lost i))
    → DataHolds (geometry_of now) left (λ d. (now.disk d).bytes) (with_tables r.record tables) next.patches next.base

-- what they keep by a record they keep by a later one
keeps_later : (was r : Register) (tables : Tables) (held next : Content) → r.record.flushed ≡ was.record.flushed → KeepsArray was tables held next → KeepsArray r tables held next
keeps_later was r tables held next same (inl all) = inl (record { flushed = all.flushed ∙ ap (λ (f : ℕ). f + length held.log) (sym same); log = all.log; base = all.base })
keeps_later was r tables held next same (inr none) = inr (record { flushed = none.flushed ∙ sym same; log = none.log; base = none.base })

-- tables that were written stand for the record to be stored, once one was stored without the drives that were lost
pub plan_at : (a b : Shelved) (is : IsShelf b) (h : b.honest) (on : Continues a b) (was r : Register) (members lost : List Bool) (tables : Tables) (held next : Content) → IsRegisterOf (geometry_of a) was → IsBootRecord (with_tables was.record tables)
    → IsLaterRecord was.record r.record → ((i : ℕ) → IsMember (drives_of r) i → IsMember (drives_of was) i × ¬ (IsMember lost i)) → StandUnlost a was lost tables next → KeepsArray was tables held next → IsOpen b r members held
    → ((n : ℕ) → b.disk (nvram n) ≡ a.disk (nvram n)) → WritesOnly (OnSlots (drives_of was)) a b → HoldsOn b r.record.members.nvrams r.record.flushed held.log → IsPlanOf b r tables held next
plan_at a b is h on was r members lost tables held next is_of lawful later among stand keeps o same writes logged =
    plans_stand b r tables held next (λ i m. member_clean b is h r members held o i m) logged (keeps_later was r tables held next (ap (λ (x : BootRecord). x.flushed) later.rest) keeps)
    (subst (λ (g : Geometry). DataHolds g (drives_of r) (λ d. (b.disk d).bytes) (with_tables r.record tables) next.patches next.base) (same_shelf on)
    (data_moves (geometry_of a) (drives_of r) (drives_of r) (λ d. (a.disk d).bytes) (λ d. (b.disk d).bytes) (with_tables was.record tables) (with_tables r.record tables) next.patches next.base
    (record { lawful = lawful; slots = is_of.lawful.slots; units = is_of.lawful.units }) (ap (λ (x : BootRecord). with_tables x tables) later.rest) (λ i m. m) (only_boot a b (drives_of was) same writes)
    (stand (drives_of r) among)))
