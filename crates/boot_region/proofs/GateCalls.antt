-- What calls on a gate write: one that reads as closed isn't closed, and one that reads as open isn't opened.
use Rattle.boot_region.proofs.Prelude.{nat_tests, ◌≡◌, inl, inr, ℕ, ◌+◌, ◌≤◌, ◌<◌, List, [], length, slice_index, refl, sym, ◌∙◌, ap, subst, arith, Bool, true, false, Result, Ok, Err, is_ok, OnOk, OnErr, slice_range, Device, SECTOR_BYTES, drive, is_open, gate_bytes, Failed, Counts, Rises, Shelved, Stop, Disk, Continues, Elapses, IsSame, IsShelf, LeavesOnly, OthersStay, ReadCounts, Written, IsPreorder, OneRange, WritesOnly, LeavesBut, ChangesOnly, Only, Ran, continues_trans, then_run, weaker, runs_read, but_then, counted_then, counts_grow, read_writes, writes_then, writes_more, IsMember, IsOneOf, OnNotShut, OneNotShut, IsNotShut, Closed, LostWrites, reads_open, gate_opens, gate_closes, gate_size, open_begins, closed_begins}
use Rattle.pur_base.specs.declared.device.Device.TheVariants as dev
use Rattle.boot_region.proofs.OnEach.{only_member}

-- a count that rose has risen at a later moment
pub rises_on : (a b c : ℕ) → Rises a b → b ≤ c → Rises a c
rises_on a b c (inl lt) le = inl (omega (arith, lt, le))
rises_on a b c (inr full) le = grind (arith, nat_tests)

pub not_shut_on : (at : ℕ) (bytes : List ℕ) (before now later : ℕ) → now ≤ later → IsNotShut at bytes before now → IsNotShut at bytes before later
not_shut_on at bytes before now later le (inl opens) = inl opens
not_shut_on at bytes before now later le (inr rose) = inr (rises_on before now later rose le)

-- a read that failed, or read the gate as open
pub not_shut : {honest : Type 0} (answer : Result (Unit {0}) Failed) (at n : ℕ) (sector : List ℕ) (old new : Disk) → ReadCounts answer old new → 0 < n → honest → OnOk answer (honest → sector ≡ slice_range old.bytes at (at + n)) → (is_ok answer ≡ true → slice_index sector 0 ≡ 1) → IsNotShut at old.bytes old.faults new.faults
not_shut {honest} (Ok x) at n sector old new counts some h read opens = inl (reads_open old.bytes sector at n (read h) some (opens refl))
not_shut {honest} (Err x) at n sector old new counts some h read opens = inr counts.faults

-- a stop that leaves bytes of W leaves bytes of V
pub left_more : {W V : Device → ℕ → Type 0} {s : Shelved} {stop : Stop} → ((d : Device) (i : ℕ) → W d i → V d i) → LeavesBut W s stop → LeavesBut V s stop
left_more {W} {V} {s} {stop} to left = grind (arith, nat_tests)

pub changes_more : {W V : ℕ → Type 0} {old new : Disk} → ((i : ℕ) → W i → V i) → ChangesOnly W old new → ChangesOnly V old new
changes_more {W} {V} {old} {new} to changes = grind (arith, nat_tests)

-- a stop in the later of two runs, as one since the first began
pub left_then : {W : Device → ℕ → Type 0} {a b : Shelved} {stop : Stop} → Continues a b → ((d : Device) → ChangesOnly (W d) (a.disk d) (b.disk d)) → LeavesBut W b stop → LeavesBut W a stop
left_then {W} {a} {b} {stop} on changes left = record { bytes = λ d. but_then (changes d) (left.bytes d); counts = counted_then (counts_grow on) left.counts }

-- a read
pub ran_read : {X : Type 0} {shelf : X → Shelved} {same_rest : X → X → Type 0} {D : Device → Type 0} {W : Device → ℕ → Type 0} {a b : X} (device : Device) → D device → IsShelf (shelf a) → Elapses (shelf a) (shelf b) → OthersStay device (shelf a) (shelf b) → same_rest a b
    → ((shelf a).honest → IsSame ((shelf a).disk device) ((shelf b).disk device)) → Ran shelf same_rest D W a b
ran_read device on is time others rest same = record { on = runs_read device on is time others same; rest = rest }

-- a read of a device, and then a write of a gate's sector on it
pub ran_behind_read : {X : Type 0} {shelf : X → Shelved} {same_rest : X → X → Type 0} {W : Device → ℕ → Type 0} {a b c : X} {n : ℕ} (device : Device) (at : ℕ) → n ≡ SECTOR_BYTES → IsShelf (shelf a) → IsPreorder same_rest
    → Elapses (shelf a) (shelf b) → OthersStay device (shelf a) (shelf b) → same_rest a b → ((shelf a).honest → IsSame ((shelf a).disk device) ((shelf b).disk device))
    → Ran shelf same_rest (Only device) (OneRange device at n) b c → ((shelf a).honest → (d : Device) (i : ℕ) → OneRange device at SECTOR_BYTES d i → W d i) → Ran shelf same_rest (Only device) W a c
ran_behind_read {shelf = shelf} {W = W} {a = a} {b = b} {c = c} device at size is stays time others rest same wrote to = record {
  on = record {
    continues = continues_trans time.continues wrote.on.continues;
    others = λ d out. wrote.on.others d out ∙ others d out;
    writes = λ h. writes_then time.continues (read_writes W device is time others (same h))
        (writes_more (λ d i w. to h d i (subst (λ (k : ℕ). OneRange device at k d i) size w)) (wrote.on.writes (time.continues.honest h)));
  };
  rest = stays.transitive a b c rest wrote.rest;
}

-- a gate that isn't shut is written
module _ (device : Device) (at : ℕ) (a b c : Shelved) (ab : Continues a b) (read : WritesOnly (λ d i. ⊥) a b) (open_or_failed : IsNotShut at (a.disk device).bytes (a.disk device).faults (b.disk device).faults)
    (bc : Continues b c) (wrote : WritesOnly (OneRange device at SECTOR_BYTES) b c) where
  to : (later : ℕ) → (b.disk device).faults ≤ later → (d : Device) (i : ℕ) → OneRange device at SECTOR_BYTES d i → OneNotShut (a.disk device) later device at d i
  to later le d i w = (w.0, w.1, not_shut_on at (a.disk device).bytes (a.disk device).faults (b.disk device).faults later le open_or_failed)

  pub closing_moments : LeavesOnly a c (λ stop. LeavesBut (OneNotShut (a.disk device) (stop.faults device) device at) a stop)
  closing_moments = grind (arith, nat_tests, then_run, weaker, left_more, left_then, changes_more, to)

-- one more member
module _ (members : List Bool) (at slot : ℕ) (a b c : Shelved) (member : IsMember members slot) (same : b.disk (drive slot) ≡ a.disk (drive slot)) (ab : Continues a b) (bc : Continues b c) where
  on_member : (before_call : (d : Device) → ℕ) (d : Device) (i : ℕ) → OneNotShut (b.disk (drive slot)) (before_call (drive slot)) (drive slot) at d i → OnNotShut members a before_call at d i
  on_member faults d i w = subst (λ (x : Device). OnNotShut members a faults at x i) (sym w.0) (member, w.1, subst (λ (k : Disk). IsNotShut at k.bytes k.faults (faults (drive slot))) same w.2)

  earlier : (before now : Device → ℕ) → ((d : Device) → before d ≤ now d) → (d : Device) (i : ℕ) → OnNotShut members a before at d i → OnNotShut members a now at d i
  earlier before now grown (dev.Drive k) i w = (w.0, w.1, not_shut_on at (a.disk (dev.Drive k)).bytes (a.disk (dev.Drive k)).faults (before (dev.Drive k)) (now (dev.Drive k)) (grown (dev.Drive k)) w.2)
  earlier before now grown (dev.Nv k) i w = w

  closing_next_writes : WritesOnly (OnNotShut members a (λ d. (b.disk d).faults) at) a b → WritesOnly (OneNotShut (b.disk (drive slot)) (c.disk (drive slot)).faults (drive slot) at) b c → WritesOnly (OnNotShut members a (λ d. (c.disk d).faults) at) a c
  closing_next_writes first next = writes_then ab (writes_more (earlier (λ d. (b.disk d).faults) (λ d. (c.disk d).faults) bc.faults) first) (writes_more (on_member (λ d. (c.disk d).faults)) next)

  pub closing_next_moments : WritesOnly (OnNotShut members a (λ d. (b.disk d).faults) at) a b → LeavesOnly a b (λ stop. LeavesBut (OnNotShut members a stop.faults at) a stop)
      → LeavesOnly b c (λ stop. LeavesBut (OneNotShut (b.disk (drive slot)) (stop.faults (drive slot)) (drive slot) at) b stop)
      → LeavesOnly a c (λ stop. LeavesBut (OnNotShut members a stop.faults at) a stop)
  closing_next_moments wrote first next = grind (arith, nat_tests, then_run, weaker, left_then, changes_more, earlier, left_more, on_member)

pub closing_next : {X : Type 0} {shelf : X → Shelved} {same_rest : X → X → Type 0} {a b c : X} (members : List Bool) (at slot : ℕ) → IsMember members slot → ((shelf b).disk (drive slot) ≡ (shelf a).disk (drive slot)) → IsPreorder same_rest
    → Ran shelf same_rest (IsOneOf members) (OnNotShut members (shelf a) (λ d. ((shelf b).disk d).faults) at) a b → Ran shelf same_rest (Only (drive slot)) (OneNotShut ((shelf b).disk (drive slot)) ((shelf c).disk (drive slot)).faults (drive slot) at) b c
    → Ran shelf same_rest (IsOneOf members) (OnNotShut members (shelf a) (λ d. ((shelf c).disk d).faults) at) a c
closing_next {shelf = shelf} {a = a} {b = b} {c = c} members at slot member same stays first next = record {
  on = record {
    continues = continues_trans first.on.continues next.on.continues;
    others = λ d out. next.on.others d (λ is. out (only_member members slot member d is)) ∙ first.on.others d out;
    writes = λ h. closing_next_writes members at slot (shelf a) (shelf b) (shelf c) member same first.on.continues next.on.continues (first.on.writes h) (next.on.writes (first.on.continues.honest h));
  };
  rest = stays.transitive a b c first.rest next.rest;
}

pub closed_of : (answer : Result (Unit {0}) Failed) (honest was : Type 0) (at : ℕ) (old new : Disk) → was → (honest → OnOk answer (is_open at new.bytes ≡ false)) → (honest → OnOk answer (old.dirty ≡ [] → new.dirty ≡ [])) → OnErr answer (LostWrites old new) → OnOk answer (new.write_faults ≡ old.write_faults)
    → Closed honest was (is_ok answer ≡ true) at old new
closed_of (Ok x) honest was at old new member closed clean counts unlost = grind (arith, nat_tests)
closed_of (Err x) honest was at old new member closed clean counts unlost = grind (arith, nat_tests)

pub closed_apart : {honest was is : Type 0} {at : ℕ} {old new : Disk} → (was → ⊥) × (is → ⊥) → Closed honest was is at old new
closed_apart {honest} {was} {is} {at} {old} {new} none = grind (arith, nat_tests)

-- a count that a call left, and then one that answers Ok
pub none_behind : (answer : Result (Unit {0}) Failed) (a b c : ℕ) → b ≡ a → Counts answer b c → OnOk answer (c ≡ a)
none_behind (Ok x) a b c same counts = counts ∙ same
none_behind (Err x) a b c same counts = tt

-- the sector of a closed gate closes it, and that of an open one opens it
pub wrote_closed : (answer : Result (Unit {0}) Failed) (at : ℕ) (from old new : List ℕ) → from ≡ gate_bytes false → OnOk answer (Written at from old new) → OnOk answer (is_open at new ≡ false)
wrote_closed (Ok x) at from old new is written = gate_closes at SECTOR_BYTES from old new written (ap length is ∙ gate_size false) (omega arith) (ap (λ (l : List ℕ). slice_index l 0) is ∙ closed_begins)
wrote_closed (Err x) at from old new is written = tt

pub wrote_open : (answer : Result (Unit {0}) Failed) (at : ℕ) (from old new : List ℕ) → from ≡ gate_bytes true → OnOk answer (Written at from old new) → OnOk answer (is_open at new ≡ true)
wrote_open (Ok x) at from old new is written = gate_opens at SECTOR_BYTES from old new written (ap length is ∙ gate_size true) (omega arith) (ap (λ (l : List ℕ). slice_index l 0) is ∙ open_begins)
wrote_open (Err x) at from old new is written = tt
