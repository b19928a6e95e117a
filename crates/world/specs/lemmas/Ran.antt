-- Runs of calls, one after another, and those of one call.
use Rattle.std.proofs.Common.{arith}
use Rattle.std.proofs.lemmas.Bool.Decides.{nat_tests}
use Rattle.std.proofs.Common.{ℕ, List, length, refl, ◌∙◌, Result}
use Rattle.pur_base.specs.declared.device.Device.{Device}
use Rattle.world.specs.declared.streams.Failed.{Failed}
use Rattle.world.specs.Streams.{IsPreorder}
use Rattle.world.specs.Shelf.{Shelved, IsCountedBy, LeavesOnly, IsIn, IsShelf, Elapses, OthersStay, IsSame, WasWritten, WasSynced}
use Rattle.world.specs.Writes.{WritesOnly}
use Rattle.world.specs.Ran.{Runs, Ran}
use Rattle.world.specs.lemmas.Moments.{continues_refl, continues_trans, weaker}
use Rattle.world.specs.lemmas.Writes.{nothing_written, writes_then, writes_more, read_writes, write_writes, sync_writes}

-- before the first call
pub runs_none : {D : Device → Type 0} {W : Device → ℕ → Type 0} → (x : Shelved) → IsShelf x → Runs D W x x
runs_none {D} {W} x is = record {
  continues = continues_refl x;
  others = λ d out. refl;
  writes = λ h. nothing_written x is;
}

-- one run after another
pub runs_then : {D : Device → Type 0} {W : Device → ℕ → Type 0} {a b c : Shelved} → Runs D W a b → Runs D W b c → Runs D W a c
runs_then {D} {W} {a} {b} {c} first next = record {
  continues = continues_trans first.continues next.continues;
  others = λ d out. next.others d out ∙ first.others d out;
  writes = λ h. writes_then first.continues (first.writes h) (next.writes (first.continues.honest h));
}

-- what runs on some devices and writes some bytes runs on these and more, and writes these and more
pub runs_more : {D E : Device → Type 0} {W V : Device → ℕ → Type 0} {a b : Shelved} → ((d : Device) → D d → E d) → ((d : Device) (i : ℕ) → W d i → V d i) → Runs D W a b → Runs E V a b
runs_more {D} {E} {W} {V} {a} {b} on to run = grind (arith, nat_tests, writes_more)

-- one call on a device of D
pub one_run : {D : Device → Type 0} {W : Device → ℕ → Type 0} {a b : Shelved} (device : Device) → D device → Elapses a b → OthersStay device a b
    → (a.honest → WritesOnly W a b) → Runs D W a b
one_run {D} {W} {a} {b} device on time others writes = grind (arith, nat_tests)

-- a read, a write, a sync
pub runs_read : {D : Device → Type 0} {W : Device → ℕ → Type 0} {a b : Shelved} (device : Device) → D device → IsShelf a → Elapses a b → OthersStay device a b
    → (a.honest → IsSame (a.disk device) (b.disk device)) → Runs D W a b
runs_read {D} {W} {a} {b} device on is time others same = one_run device on time others (λ h. read_writes W device is time others (same h))

pub runs_write : {D : Device → Type 0} {W : Device → ℕ → Type 0} {a b : Shelved} {answer : Result (Unit {0}) Failed} {lapsed : Type 0} {start : ℕ} {from : List ℕ} (device : Device) → D device → IsShelf a → Elapses a b → OthersStay device a b
    → (a.honest → WasWritten answer lapsed start from (a.disk device) (b.disk device)) → ((i : ℕ) → IsIn (record { start = start; size = length from }) i → W device i) → Runs D W a b
runs_write {D} {W} {a} {b} {answer} {lapsed} {start} {from} device on is time others was within = one_run device on time others (λ h. write_writes W device is time others (was h) within)

pub runs_sync : {D : Device → Type 0} {W : Device → ℕ → Type 0} {a b : Shelved} {answer : Result (Unit {0}) Failed} (device : Device) → D device → IsShelf a → Elapses a b → OthersStay device a b
    → (a.honest → WasSynced answer (a.disk device) (b.disk device)) → Runs D W a b
runs_sync {D} {W} {a} {b} {answer} device on is time others was = one_run device on time others (λ h. sync_writes W device is time others (was h))

-- at each moment as many calls had failed as before it
pub runs_moments : {D : Device → Type 0} {W : Device → ℕ → Type 0} {a b : Shelved} → Runs D W a b → a.honest → LeavesOnly a b (IsCountedBy a)
runs_moments run h = weaker (λ stop left. left.counts) (run.writes h).any_moment

pub ran_none : {X : Type 0} {shelf : X → Shelved} {same_rest : X → X → Type 0} {D : Device → Type 0} {W : Device → ℕ → Type 0} → IsPreorder same_rest → (x : X) → IsShelf (shelf x) → Ran shelf same_rest D W x x
ran_none {shelf = shelf} stays x is = record { on = runs_none (shelf x) is; rest = stays.reflexive x }

pub ran_then : {X : Type 0} {shelf : X → Shelved} {same_rest : X → X → Type 0} {D : Device → Type 0} {W : Device → ℕ → Type 0} {a b c : X} → IsPreorder same_rest → Ran shelf same_rest D W a b → Ran shelf same_rest D W b c → Ran shelf same_rest D W a c
ran_then {a = a} {b = b} {c = c} stays first next = record { on = runs_then first.on next.on; rest = stays.transitive a b c first.rest next.rest }

pub ran_more : {X : Type 0} {shelf : X → Shelved} {same_rest : X → X → Type 0} {D E : Device → Type 0} {W V : Device → ℕ → Type 0} {a b : X} → ((d : Device) → D d → E d) → ((d : Device) (i : ℕ) → W d i → V d i) → Ran shelf same_rest D W a b → Ran shelf same_rest E V a b
ran_more on to ran = record { on = runs_more on to ran.on; rest = ran.rest }

pub ran_write : {X : Type 0} {shelf : X → Shelved} {same_rest : X → X → Type 0} {D : Device → Type 0} {W : Device → ℕ → Type 0} {a b : X} {answer : Result (Unit {0}) Failed} {lapsed : Type 0} {start : ℕ} {from : List ℕ} (device : Device) → D device → IsShelf (shelf a) → Elapses (shelf a) (shelf b) → OthersStay device (shelf a) (shelf b) → same_rest a b
    → ((shelf a).honest → WasWritten answer lapsed start from ((shelf a).disk device) ((shelf b).disk device)) → ((i : ℕ) → IsIn (record { start = start; size = length from }) i → W device i) → Ran shelf same_rest D W a b
ran_write device on is time others rest was within = record { on = runs_write device on is time others was within; rest = rest }

pub ran_sync : {X : Type 0} {shelf : X → Shelved} {same_rest : X → X → Type 0} {D : Device → Type 0} {W : Device → ℕ → Type 0} {a b : X} {answer : Result (Unit {0}) Failed} (device : Device) → D device → IsShelf (shelf a) → Elapses (shelf a) (shelf b) → OthersStay device (shelf a) (shelf b) → same_rest a b
    → ((shelf a).honest → WasSynced answer ((shelf a).disk device) ((shelf b).disk device)) → Ran shelf same_rest D W a b
ran_sync device on is time others rest was = record { on = runs_sync device on is time others was; rest = rest }
