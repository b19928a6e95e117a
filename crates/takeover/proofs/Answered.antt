-- What is known of an answer, and of devices that were dropped on the way to it.
use Rattle.takeover.proofs.Prelude.{nat_tests, ◌≡◌, ℕ, List, Bool, arith, sym, subst, Result, Ok, Err, IfOk, IsErrAnd, View, nvram, Shelved, Continues, NvLog, LosesOnlyFailed, DroppedCounted, IsFewer, IsReadFrom, IsSome, LeavesSome}
use Rattle.boot_region.proofs.Stored.{rises_between}

-- the exit of a `?` tells the fault that the call told
pub told : {T E : Type 0} (P : Result T E → Type 0) (r : Result T E) (e : E) → IsErrAnd r (λ k. k ≡ e) → P (Err e) → P r
told P (Ok t) e is fine = absurd is
told P (Err k) e is fine = subst (λ x. P (Err x)) (sym is) fine

pub ok_both : {T E : Type 0} (r : Result T E) (P Q R : T → Type 0) → IfOk r P → IfOk r Q → ((t : T) → P t → Q t → R t) → IfOk r R
ok_both (Ok t) P Q R is also more = more t is also
ok_both (Err e) P Q R is also more = tt

pub read_more : (now before : Type 0) (view : View) (log : NvLog) → (before → now) → IsReadFrom now view log → IsReadFrom before view log
read_more now before view log honest r = record { commands = r.commands; has = r.has; shown = λ h. r.shown (honest h); ends = λ h. r.ends (honest h) }

-- of devices dropped in either of two steps
pub dropped_twice : (old mid new : Shelved) (was left now : List Bool) → Continues old mid → Continues mid new → DroppedCounted old mid was left → DroppedCounted mid new left now → DroppedCounted old new was now
dropped_twice old mid new was left now on next first last n lt m = grind (arith, nat_tests, rises_between, nvram)

-- of those that were synced and then read
pub leaves_some : (old mid new : Shelved) (was left now : List Bool) → Continues old mid → Continues mid new → LosesOnlyFailed old mid was left → IsFewer left now → IsSome now → DroppedCounted mid new left now
    → ((n : ℕ) → (new.disk (nvram n)).write_faults ≡ (mid.disk (nvram n)).write_faults) → LeavesSome old new was now
leaves_some old mid new was left now on next synced fewer some dropped looks = grind (arith, nat_tests, dropped_twice)
