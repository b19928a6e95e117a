-- What a change of the log and a store leave, and one change after another.
use Rattle.array_core.proofs.Prelude.{nat_tests, ◌≡◌, ◌⊎◌, inl, inr, ℕ, ◌+◌, ◌≤◌, List, [], length, sym, ap, subst, arith, Bool, Result, Ok, Err, OnOk, OnErr, Some, Device, Geometry, drive, nvram, Facts, segment, SegmentFact, BootRecord, set_count, ArePlaces, geometry_of, Shelved, Continues, Contents, IsMember, DroppedFailed, LostWrites, Register, Tables, IsLaterRecord, drives_of, Content, DropsOnlyFailed, IsUnstored, in_cut, with_tables, on_err, KeepsTables, LeavesFewer, OnlyFaults, SegmentsHold, IsHolderBy, IsLostBy, IsReady, HasTables, HoldOnLeft, HoldTables, MaySwitch, WroteFree}
use Rattle.nvram_log.specs.Members as nv
use Rattle.array_core.specs.declared.array.Array.{Array}
use Rattle.array_core.proofs.Dropped.{drops_failed}
use Rattle.array_core.proofs.Holders.{drops_then, none_joins, too_much_since}
use Rattle.array_core.proofs.LostOnWay.{dropped_then}
use Rattle.array_core.proofs.Stages.{ok_if}

-- ---- results

pub when_err : {T E P : Type 0} (r : Result T E) → P → OnErr r P
when_err (Ok x) p = tt
when_err (Err e) p = p

-- ---- records

pub later_then : {a b c : BootRecord} → IsLaterRecord a b → IsLaterRecord b c → IsLaterRecord a c
later_then {a} {b} {c} first next = grind (arith, nat_tests)

-- with other tables behind it
pub later_tables : {a b c : BootRecord} (tables : Tables) → IsLaterRecord a b → IsLaterRecord (with_tables b tables) c → IsLaterRecord (with_tables a tables) c
later_tables {a} {b} {c} tables first next = grind (arith, nat_tests, with_tables)

pub kept_tables : {a : BootRecord} (r1 r2 : Register) (tables : Tables) → IsLaterRecord a r1.record → IsUnstored r1 r2 ⊎ IsLaterRecord (with_tables r1.record tables) r2.record
    → IsLaterRecord a r2.record ⊎ IsLaterRecord (with_tables a tables) r2.record
kept_tables {a} r1 r2 tables first (inl same) = inl (subst (λ (b : BootRecord). IsLaterRecord a b) (sym same.0) first)
kept_tables r1 r2 tables first (inr stored) = inr (later_tables tables first stored)

pub kept_then : {a b c d : BootRecord} → IsLaterRecord a c ⊎ IsLaterRecord b c → IsLaterRecord c d → IsLaterRecord a d ⊎ IsLaterRecord b d
kept_then (inl was) next = inl (later_then was next)
kept_then (inr is) next = inr (later_then is next)

-- ---- before it

pub may_switch : (start : Shelved) (a : Array) (held : Content) {now : Shelved} {lost : List Bool} {tables : Tables} {next : Content} → IsReady start a held → WroteFree start now a.register lost held → HoldTables now a.register lost tables held next
    → MaySwitch start now a.register a.log lost tables held next
may_switch start a held ready wrote hold = record { was = record { is_open = ready.is_open; held_log = ready.held_log; keeps = ready.keeps }; wrote = wrote; hold = hold }

-- ---- which devices are left

pub fewer_then : {size size2 : Geometry} {lost more : List Bool} {m n : ℕ} {r0 r1 r2 : Register} {m0 m1 m2 : List Bool} → LeavesFewer size lost m r0 r1 m0 m1 → LeavesFewer size2 more n r1 r2 m1 m2 → LeavesFewer size2 lost (m + n) r0 r2 m0 m2
fewer_then first next = grind (arith, nat_tests)

-- a record is stored behind that, with the log as it is
pub tables_fewer : {size : Geometry} {lost : List Bool} {old new : Shelved} {r0 r1 r2 : Register} {m0 m1 members : List Bool} → LeavesFewer size lost 3 r0 r1 m0 m1 → DropsOnlyFailed old new r1 r2 → r2.record.generation ≤ r1.record.generation + 3
    → LeavesFewer (geometry_of new) lost 6 r0 r2 members members
tables_fewer first left few = grind (arith, nat_tests)

-- ---- a call on the log's devices, then a store, or none

pub unlost_of : {old new : Shelved} {was now : Register} → DropsOnlyFailed old new was now → (i : ℕ) → IsMember (drives_of now) i → (new.disk (drive i)).write_faults ≡ (old.disk (drive i)).write_faults
unlost_of {now = now} left i m = left.unlost i (in_cut now.drives now.record.slots i m)

pub only_faults : (a m n : Shelved) (r now : Register) (members left : List Bool) → length members ≡ 2 → ((i : ℕ) → m.disk (drive i) ≡ a.disk (drive i)) → ((k : ℕ) → n.disk (nvram k) ≡ m.disk (nvram k))
    → nv.LosesOnlyFailed a m members left → DroppedFailed m n (drives_of r) (drives_of now) → ((i : ℕ) → IsMember (drives_of now) i → (n.disk (drive i)).write_faults ≡ (m.disk (drive i)).write_faults) → {T E : Type 0} (result : Result T E) → (DroppedFailed a n (drives_of r) (drives_of now) → OnErr result (IsLostBy a n r members))
    → OnlyFaults result a n r now members left
only_faults a m n r now members left two drives nvrams logs dropped unlost result lost = record { holders = drops_failed a m n r now members left two drives nvrams logs dropped unlost; drives = since_a; lost = lost since_a }
  where
    since_a : DroppedFailed a n (drives_of r) (drives_of now)
    since_a i mem = subst (λ d. IsMember (drives_of now) i ⊎ LostWrites d (n.disk (drive i))) (drives i) (dropped i mem)

-- an error is handed on
pub faults_on : {T E U F : Type 0} {e : E} {old new : Shelved} {was now : Register} {members left : List Bool} (result : Result U F) → OnlyFaults {T = T} (Err e) old new was now members left → OnlyFaults result old new was now members left
faults_on result x = record { holders = x.holders; drives = x.drives; lost = when_err result x.lost }

-- one change after another, where the first leaves the log as it is
pub faults_then : (start mid new : Shelved) → Continues start mid → Continues mid new → (r0 r1 r2 : Register) (members left : List Bool) → r1.record.slots ≡ r0.record.slots → ((d : Device) → IsHolderBy r2 left d → IsHolderBy r1 members d) → {T E U F : Type 0} (first : Result T E) (result : Result U F)
    → OnlyFaults first start mid r0 r1 members members → OnlyFaults result mid new r1 r2 members left → OnlyFaults result start new r0 r2 members left
faults_then start mid new on next r0 r1 r2 members left slots fewer first result was now = record {
  holders = drops_then start mid new on next r0 r1 r2 members members left fewer was.holders now.holders;
  drives = dropped_then start mid new on next (drives_of r0) (drives_of r1) (drives_of r2) was.drives now.drives;
  lost = on_err result (λ too_much. too_much_since start mid new on next r0 r1 members slots was.drives too_much) now.lost;
}

-- the log is cleared behind other tables
pub changed_then : {old mid : Shelved} {lost : List Bool} {tables : Tables} (new : Shelved) (r0 r1 r2 : Register) (members left : List Bool) → HasTables old mid lost tables r0 r1 members members → LeavesFewer (geometry_of new) [] 3 r1 r2 members left
    → {T E : Type 0} (result : Result T E) → KeepsTables result r1 r2 members left
    → ((drives : r2.record.members.drives ≡ r2.drives) (enough : r2.record.slots ≤ set_count r2.drives + 2) → old.honest → (contents : Contents) (fs : Facts)
    → ((id : ℕ) (d : SegmentFact) → segment fs id ≡ Some d → ArePlaces (geometry_of old) d.places) → HoldOnLeft old r0 lost contents fs → SegmentsHold contents new r2 fs)
    → OnOk result (HasTables old new lost tables r0 r2 members left)
changed_then new r0 r1 r2 members left x fewer result y segments = ok_if result (λ get.
    let drives = get _ y.drives x.drives in
    let enough = get _ y.enough x.enough in
    record {
      later = later_then x.later y.later;
      rises = omega (arith, x.rises, y.later.generation);
      drives = drives;
      enough = enough;
      joins = none_joins r0 r1 r2 members left x.joins (λ i m. (fewer.fewer i m).0) (ap (λ (k : BootRecord). k.slots) y.later.rest) fewer.fewer_logs (get _ y.named) (get _ y.drives) (get _ y.nvrams) (get _ y.enough);
      segments = segments drives enough;
    })
