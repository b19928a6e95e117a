-- The stages of the end of a checkpoint or a merge, one after another.
use Rattle.array_core.proofs.Prelude.{nat_tests, ◌≡◌, ◌⊎◌, inl, inr, ℕ, ◌+◌, ◌^◌, ◌<◌, List, [], ◌∷◌, length, refl, sym, ◌∙◌, ap, subst, Bool, arith, nvram, BootRecord, IsBootRecord, geometry_of, Shelved, IsShelf, Continues, LeavesOnly, WritesOnly, Runs, continues_trans, IsDrive, IsMember, DroppedFailed, NvLog, HoldsOn, StoreFault, Register, Tables, IsFaultOf, GivesOldOrTables, IsLaterRecord, IsRegisterOf, OnSlots, drives_of, Content, IsOpen, array_of, IsPlanOf, KeepsArray, StandsAsBefore, with_tables, in_cut, fewer_cut, IsKeptAt, LostDrives, AreLeft, IsOpenOn, AreLost, MaySwitch}
use Rattle.array_core.proofs.Keeping.{CameAfter, run_since}
use Rattle.array_core.proofs.LostOnWay.{dropped_then, drives_lost}
use Rattle.array_core.proofs.Stages.{came_after, left_dropped, plan_at}
use Rattle.array_core.proofs.Tables.{still_holds, tables_moments}

-- ---- a record without the drives that were lost, then one of the tables

pub both_dropped : (s a b c : Shelved) → Continues s a → Continues a b → Continues b c → (r0 r1 r2 : Register) (lost : List Bool) → AreLost s a r0 lost → AreLeft a b r0 r1 lost → DroppedFailed b c (drives_of r1) (drives_of r2)
    → DroppedFailed s c (drives_of r0) (drives_of r2)
both_dropped s a b c since on next r0 r1 r2 lost are left dropped = dropped_then s b c (continues_trans since on) next (drives_of r0) (drives_of r1) (drives_of r2) (left_dropped s a b since on r0 r1 lost are left) dropped

-- the first could not be stored
pub none_left : (s a b : Shelved) → Continues s a → Continues a b → (r0 r1 : Register) (lost : List Bool) → AreLost s a r0 lost → AreLeft a b r0 r1 lost → IsLaterRecord r0.record r1.record → r1.record.generation + 1 < 2 ^ 48
    → (e : StoreFault) → IsFaultOf r1 e → LostDrives s b r0
none_left s a b since on r0 r1 lost are left later low e fault = drives_lost s b r0 r1 (ap (λ (x : BootRecord). x.slots) later.rest) (left_dropped s a b since on r0 r1 lost are left) low e fault

-- the second could not
pub none_stored : (s a b c : Shelved) → Continues s a → Continues a b → Continues b c → (r0 r1 r2 : Register) (lost : List Bool) (tables : Tables) → AreLost s a r0 lost → AreLeft a b r0 r1 lost → DroppedFailed b c (drives_of r1) (drives_of r2)
    → IsLaterRecord r0.record r1.record → ((r2.record ≡ r1.record) × (r2.drives ≡ r1.drives)) ⊎ IsLaterRecord (with_tables r1.record tables) r2.record → r2.record.generation + 1 < 2 ^ 48
    → (e : StoreFault) → IsFaultOf r2 e → LostDrives s c r0
none_stored s a b c since on next r0 r1 r2 lost tables are left dropped later kept low e fault =
    drives_lost s c r0 r2 (slots kept ∙ ap (λ (x : BootRecord). x.slots) later.rest) (both_dropped s a b c since on next r0 r1 r2 lost are left dropped) low e fault
  where
    slots : ((r2.record ≡ r1.record) × (r2.drives ≡ r1.drives)) ⊎ IsLaterRecord (with_tables r1.record tables) r2.record → r2.record.slots ≡ r1.record.slots
    slots (inl same) = ap (λ (x : BootRecord). x.slots) same.0
    slots (inr stored) = ap (λ (x : BootRecord). x.slots) stored.rest

-- ---- what they leave

-- drives that were lost were left: from a to b, since the start
pub record HasLeft (s a b : Shelved) (was r : Register) (log : NvLog) (lost : List Bool) (tables : Tables) (held next : Content) : Type 0 where
  pub is : IsShelf b
  pub honest : a.honest
  pub runs : Runs IsDrive (OnSlots (drives_of was)) a b
  pub is_of : IsRegisterOf (geometry_of a) was
  pub lawful : IsBootRecord (with_tables was.record tables)
  pub may : MaySwitch s a was log lost tables held next
  pub later : IsLaterRecord was.record r.record
  pub fewer : (i : ℕ) → IsMember r.drives i → IsMember was.drives i × ¬ (IsMember lost i)
  pub left : AreLeft a b was r lost
  pub is_open : IsOpen b r log.members held

module _ (s a b : Shelved) (was r : Register) (log : NvLog) (lost : List Bool) (tables : Tables) (held next : Content) (p : HasLeft s a b was r log lost tables held next) where
  same_a : (n : ℕ) → b.disk (nvram n) ≡ a.disk (nvram n)
  same_a n = p.runs.others (nvram n) (λ v. v)

  same_b : (n : ℕ) → b.disk (nvram n) ≡ s.disk (nvram n)
  same_b n = same_a n ∙ p.may.wrote.free.nvrams n

  pub open_b : IsOpen b r r.record.members.nvrams held
  open_b = subst (λ (l : List Bool). IsOpen b r l held) (sym p.is_open.nvrams_are) p.is_open

  among : (i : ℕ) → IsMember (drives_of r) i → IsMember (drives_of was) i × ¬ (IsMember lost i)
  among i m = (fewer_cut was r (ap (λ (x : BootRecord). x.slots) p.later.rest) (λ k y. (p.fewer k y).0) i m, (p.fewer i (in_cut r.drives r.record.slots i m)).1)

  -- they show the log by the record, and the gates behind it are closed
  holds_b : HoldsOn b r.record.members.nvrams r.record.flushed held.log
  holds_b = grind (arith, nat_tests, still_holds, same_b)

  pub plan : IsPlanOf b r tables held next
  plan = plan_at a b p.is (p.runs.continues.honest p.honest) p.runs.continues was r log.members lost tables held next p.is_of p.lawful p.later among p.may.hold.stand p.may.hold.keeps p.is_open same_a (p.runs.writes p.honest) holds_b

  dropped_b : DroppedFailed s b (drives_of was) (drives_of r)
  dropped_b = left_dropped s a b p.may.wrote.free.continues p.runs.continues was r lost p.may.wrote.cause p.left

  after_b : CameAfter s b was.record r.record
  after_b = came_after s b was r log.members held held p.may.was.is_open p.is_open (λ i m. (p.fewer i m).0) dropped_b

  -- while a record of the tables is stored
  pub tables_run : (c : Shelved) → WritesOnly (OnSlots (drives_of r)) b c → LeavesOnly b c (StandsAsBefore b r held) → LeavesOnly b c (GivesOldOrTables b r tables) → LeavesOnly b c (IsKeptAt s was.record (array_of held ∷ []))
  tables_run c writes stands gives = run_since s b c (continues_trans p.may.wrote.free.continues p.runs.continues) was.record r.record after_b (array_of held ∷ []) writes
      (tables_moments b c p.is (p.runs.continues.honest p.honest) r tables held open_b writes stands gives)

  -- once it was stored
  pub open_then : (c : Shelved) (now : Register) → ((n : ℕ) → c.disk (nvram n) ≡ b.disk (nvram n)) → IsOpen c now r.record.members.nvrams next → IsOpenOn c now log next held.log
  open_then c now same o = grind (arith, nat_tests, still_holds, same_b)

-- ---- tables that hold the commands of the log

none_left_over : {X : Type 0} (xs : List X) → length xs ≡ 0 → xs ≡ []
none_left_over [] none = refl
none_left_over (x ∷ xs) none = absurd (omega (arith, none))

pub log_is_done : (r : Register) (tables : Tables) (held next : Content) → KeepsArray r tables held next → tables.flushed ≡ r.record.flushed + length held.log → next.log ≡ []
log_is_done r tables held next (inl all) flushed = all.log
log_is_done r tables held next (inr none) flushed = none.log ∙ none_left_over held.log (omega (arith, none.flushed, flushed))
