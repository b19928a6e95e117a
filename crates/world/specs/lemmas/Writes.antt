-- What calls write, and what a stop leaves of the rest.
use Rattle.std.proofs.lemmas.Bool.Decides.{nat_tests}
use Rattle.std.proofs.Common.{arith, ◌⊎◌, inl, inr, ⊎_elim, ℕ, List, [], ◌∷◌, ◌++◌, length, slice_index, refl, ap, subst, Result, Ok, Err}
use Rattle.pur_base.specs.declared.device.Device.{Device}
use Rattle.pur_base.specs.Prelude.{same_device}
use Rattle.world.specs.declared.streams.Failed.{Failed}
use Rattle.world.specs.declared.shelf.Span.{Span}
use Rattle.world.specs.Shelf.{Stop, Shelved, Disk, IsIn, IsInSome, MayLeave, Continues, Elapses, OthersStay, IsSame, WasWritten, WasSynced, WrittenIfOk, Marked, Scribbled, IsShelf, MayStop, IsCountedBy}
use Rattle.world.specs.Writes.{LeavesBut, WritesOnly, ChangesOnly, MayLeaveBut, CountsGrow}
use Rattle.world.specs.lemmas.Moments.{then_run, weaker, one_call, started}

pub unchanged : {W : ℕ → Type 0} (disk : Disk) → ChangesOnly W disk disk
unchanged {W} disk = record { size = refl; bytes = λ i out. refl; dirty = λ i is. inl is }

pub changes_then : {W : ℕ → Type 0} {a b c : Disk} → ChangesOnly W a b → ChangesOnly W b c → ChangesOnly W a c
changes_then {W} {a} {b} {c} first next = grind (arith, nat_tests)

-- what a disk may leave that differs only in W
pub may_leave_but : {W : ℕ → Type 0} {old new : Disk} {bytes : List ℕ} → ChangesOnly W old new → MayLeave new bytes → MayLeaveBut W old bytes
may_leave_but {W} {old} {new} {bytes} changes may = grind (arith, nat_tests)

pub but_then : {W : ℕ → Type 0} {old new : Disk} {bytes : List ℕ} → ChangesOnly W old new → MayLeaveBut W new bytes → MayLeaveBut W old bytes
but_then {W} {old} {new} {bytes} changes may = grind (arith, nat_tests)

pub here_but : {W : Device → ℕ → Type 0} (s : Shelved) (stop : Stop) → MayStop s stop → LeavesBut W s stop
here_but {W} s stop may = record { bytes = λ d. may_leave_but (unchanged (s.disk d)) (may.device d); counts = may.counts }

pub nothing_written : {W : Device → ℕ → Type 0} (s : Shelved) → IsShelf s → WritesOnly W s s
nothing_written {W} s only = grind (arith, nat_tests, unchanged, started, here_but)

pub counted_then : {a b : Shelved} {stop : Stop} → CountsGrow a b → IsCountedBy b stop → IsCountedBy a stop
counted_then {a} {b} {stop} g c = record { faults = λ d. omega (arith, g.faults d, c.faults d); write_faults = λ d. omega (arith, g.write_faults d, c.write_faults d) }

grow_then : {a b c : Shelved} → CountsGrow a b → CountsGrow b c → CountsGrow a c
grow_then {a} {b} {c} g h = record { faults = λ d. omega (arith, g.faults d, h.faults d); write_faults = λ d. omega (arith, g.write_faults d, h.write_faults d) }

pub counts_grow : {a b : Shelved} → Continues a b → CountsGrow a b
counts_grow {a} {b} on = record { faults = on.faults; write_faults = on.write_faults }

-- one run after another
pub writes_then : {W : Device → ℕ → Type 0} {a b c : Shelved} → Continues a b → WritesOnly W a b → WritesOnly W b c → WritesOnly W a c
writes_then {W} {a} {b} {c} ab first next = record {
  device = λ d. changes_then (first.device d) (next.device d);
  counts = grow_then first.counts next.counts;
  any_moment = then_run ab first.any_moment (weaker (λ stop left. record { bytes = λ d. but_then (first.device d) (left.bytes d); counts = counted_then first.counts left.counts }) next.any_moment);
}

-- one call
pub call_writes : {W : Device → ℕ → Type 0} {a b : Shelved} → IsShelf a → Elapses a b → ((d : Device) → ChangesOnly (W d) (a.disk d) (b.disk d)) → WritesOnly W a b
call_writes {W} {a} {b} only time changes = grind (arith, nat_tests, counts_grow, one_call, here_but, may_leave_but, counted_then)

-- a call on one device
pub on_one : (W : Device → ℕ → Type 0) (a b : Shelved) (device : Device) → OthersStay device a b → ChangesOnly (W device) (a.disk device) (b.disk device) → (d : Device) → ChangesOnly (W d) (a.disk d) (b.disk d)
on_one W a b device others here d = grind (arith, nat_tests, same_device, unchanged)

pub read_changes : {W : ℕ → Type 0} {old new : Disk} → IsSame old new → ChangesOnly W old new
read_changes {W} {old} {new} same = grind (arith, nat_tests, slice_index)

pub sync_changes : {W : ℕ → Type 0} (answer : Result (Unit {0}) Failed) {old new : Disk} → WasSynced answer old new → ChangesOnly W old new
sync_changes {W} (Ok x) {old} {new} was = record {
  size = ap length was.bytes;
  bytes = λ i out. ap (λ (l : List ℕ). slice_index l i) was.bytes;
  dirty = λ i is. absurd (subst (λ (l : List Span). IsInSome l i) was.dirty is);
}
sync_changes {W} (Err x) {old} {new} was = record {
  size = ap length was.bytes;
  bytes = λ i out. ap (λ (l : List ℕ). slice_index l i) was.bytes;
  dirty = λ i is. inl (subst (λ (l : List Span). IsInSome l i) was.dirty is);
}

-- written or not, the bytes outside stay
pub scribbled : (answer : Result (Unit {0}) Failed) (start : ℕ) (from old new : List ℕ) → WrittenIfOk answer start from old new → Scribbled start (length from) old new
scribbled (Ok x) start from old new w = record { size = w.size; outside = w.outside }
scribbled (Err x) start from old new w = w

-- one more range
pub in_some_more : (xs : List Span) (s : Span) (i : ℕ) → IsInSome (xs ++ s ∷ []) i → IsInSome xs i ⊎ IsIn s i
in_some_more [] s i (inl here) = inr here
in_some_more [] s i (inr none) = absurd none
in_some_more (x ∷ xs) s i (inl here) = inl (inl here)
in_some_more (x ∷ xs) s i (inr there) = ⊎_elim (λ was. inl (inr was)) (λ new. inr new) (in_some_more xs s i there)

marked : (answer : Result (Unit {0}) Failed) (lapsed : Type 0) (s : Span) (old new : List Span) → Marked answer lapsed s old new → (i : ℕ) → IsInSome new i → IsInSome old i ⊎ IsIn s i
marked (Ok x) lapsed s old new m i is = in_some_more old s i (subst (λ (l : List Span). IsInSome l i) m is)
marked (Err x) lapsed s old new (inl m) i is = in_some_more old s i (subst (λ (l : List Span). IsInSome l i) m is)
marked (Err x) lapsed s old new (inr m) i is = inl (subst (λ (l : List Span). IsInSome l i) m.1 is)

pub write_changes : {W : ℕ → Type 0} (answer : Result (Unit {0}) Failed) {lapsed : Type 0} {start : ℕ} {from : List ℕ} {old new : Disk} → WasWritten answer lapsed start from old new → ((i : ℕ) → IsIn (record { start = start; size = length from }) i → W i) → ChangesOnly W old new
write_changes {W} answer {lapsed} {start} {from} {old} {new} was within = grind (arith, nat_tests, scribbled, marked)

-- each of the three calls
pub read_writes : (W : Device → ℕ → Type 0) (device : Device) {a b : Shelved} → IsShelf a → Elapses a b → OthersStay device a b → IsSame (a.disk device) (b.disk device) → WritesOnly W a b
read_writes W device {a} {b} only time others same = call_writes only time (on_one W a b device others (read_changes same))

pub write_writes : (W : Device → ℕ → Type 0) (device : Device) {answer : Result (Unit {0}) Failed} {lapsed : Type 0} {start : ℕ} {from : List ℕ} {a b : Shelved} → IsShelf a → Elapses a b → OthersStay device a b → WasWritten answer lapsed start from (a.disk device) (b.disk device)
    → ((i : ℕ) → IsIn (record { start = start; size = length from }) i → W device i) → WritesOnly W a b
write_writes W device {answer} {lapsed} {start} {from} {a} {b} only time others was within = call_writes only time (on_one W a b device others (write_changes answer was within))

pub sync_writes : (W : Device → ℕ → Type 0) (device : Device) {answer : Result (Unit {0}) Failed} {a b : Shelved} → IsShelf a → Elapses a b → OthersStay device a b → WasSynced answer (a.disk device) (b.disk device) → WritesOnly W a b
sync_writes W device {answer} {a} {b} only time others was = call_writes only time (on_one W a b device others (sync_changes answer was))

-- what writes only some bytes writes only these and more
pub writes_more : {W V : Device → ℕ → Type 0} {a b : Shelved} → ((d : Device) (i : ℕ) → W d i → V d i) → WritesOnly W a b → WritesOnly V a b
writes_more {W} {V} {a} {b} to writes = grind (arith, nat_tests, weaker)
