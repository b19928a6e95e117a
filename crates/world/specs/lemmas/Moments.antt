-- How a run of calls goes on.
use Rattle.std.proofs.lemmas.Bool.Decides.{nat_tests}
use Rattle.std.proofs.Common.{◌≤◌, ◌≡◌, ◌*◌, inl, inr, ⊎_elim, ℕ, List, [], ◌++◌, append_assoc, ap, subst, refl, sym, ◌∙◌, arith}
use Rattle.std.proofs.lemmas.List.{append-nil}
use Rattle.pur_base.specs.declared.device.Device.{Device}
use Rattle.pur_base.specs.declared.device.Device.TheVariants.{Drive, Nv}
use Rattle.world.specs.Shelf.{Shelved, Stop, MayStop, Continues, Elapses, LeavesOnly, Leaves, IsQuiet, IsQuietBy, OutputOnly, TakenOnly, MayLeave, IsFrontOf, IsShelf, IsCountedBy, IsOf, size_of}

pub front_trans : (xs ys zs : List ℕ) → IsFrontOf xs ys → IsFrontOf ys zs → IsFrontOf xs zs
front_trans xs ys zs a b = (a.0 ++ b.0, b.1 ∙ ap (λ (l : List ℕ). l ++ b.0) a.1 ∙ append_assoc xs a.0 b.0)

pub front_refl : (xs : List ℕ) → IsFrontOf xs xs
front_refl xs = ([], sym (append-nil xs))

pub continues_refl : (s : Shelved) → Continues s s
continues_refl s = grind (arith, nat_tests, front_refl)

pub continues_trans : {a b c : Shelved} → Continues a b → Continues b c → Continues a c
continues_trans {a} {b} {c} ab bc = record {
  drives = bc.drives ∙ ab.drives;
  units = bc.units ∙ ab.units;
  honest = λ h. bc.honest (ab.honest h);
  honest_before = λ h. ab.honest_before (bc.honest_before h);
  lapsed = λ l. bc.lapsed (ab.lapsed l);
  output = front_trans a.output b.output c.output ab.output bc.output;
  taken = omega (arith, ab.taken, bc.taken);
  later = omega (arith, ab.later, bc.later);
  faults = λ d. omega (arith, ab.faults d, bc.faults d);
  write_faults = λ d. omega (arith, ab.write_faults d, bc.write_faults d);
  keeps = λ whole t stop le left. bc.keeps whole t stop (omega (arith, le, ab.later)) (ab.keeps (λ l. whole (bc.lapsed l)) t stop le left);
}

-- the devices and their ranges are those of before
pub still_of : {a b : Shelved} → Continues a b → (d : Device) → IsOf a d → IsOf b d
still_of {a} {b} on (Drive d) is = omega (arith, on.drives, is)
still_of {a} {b} on (Nv n) is = is

pub same_size : {a b : Shelved} → Continues a b → (d : Device) → size_of b d ≡ size_of a d
same_size {a} {b} on (Drive d) = ap (λ (n : ℕ). 65536 * n) on.units
same_size {a} {b} on (Nv n) = refl

pub quiet_refl : (s : Shelved) → IsQuiet s s
quiet_refl s = record { output = refl; taken = refl }

pub quiet_then : {a b c : Shelved} → IsQuiet a b → IsQuiet b c → IsQuiet a c
quiet_then {a} {b} {c} ab bc = record { output = bc.output ∙ ab.output; taken = bc.taken ∙ ab.taken }

pub quiet_by : {a b : Shelved} {stop : Stop} → IsQuiet a b → IsQuietBy b stop → IsQuietBy a stop
quiet_by {a} {b} {stop} ab now = record { output = now.output ∙ ab.output; taken = now.taken ∙ ab.taken }

-- a stop now
pub quiet_now : {s : Shelved} {stop : Stop} → MayStop s stop → IsQuietBy s stop
quiet_now {s} {stop} may = record { output = may.output; taken = may.taken }

-- before the first call
pub started : (s : Shelved) (P : Stop → Type 0) → IsShelf s → ((stop : Stop) → MayStop s stop → P stop) → LeavesOnly s s P
started s P only here = grind (arith, nat_tests, quiet_refl, quiet_now)

-- one run after another
pub then_run : {a b c : Shelved} {P : Stop → Type 0} → Continues a b → LeavesOnly a b P → LeavesOnly b c P → LeavesOnly a c P
then_run {a} {b} {c} {P} ab first next = grind (arith, nat_tests, quiet_then, quiet_by)

-- what is left has less
pub weaker : {a b : Shelved} {P Q : Stop → Type 0} → ((stop : Stop) → P stop → Q stop) → LeavesOnly a b P → LeavesOnly a b Q
weaker {a} {b} {P} {Q} to all = grind (arith, nat_tests)

-- one call: what may be left before it has P, and what may be left after it
pub one_call : {a b : Shelved} (P : Stop → Type 0) → IsShelf a → Elapses a b → ((stop : Stop) → MayStop a stop → P stop) → ((stop : Stop) → MayStop b stop → P stop) → LeavesOnly a b P
one_call {a} {b} P only time here there = grind (arith, nat_tests, quiet_by, quiet_now)

-- the same of stops with the output and the input
pub leaves_start : (s : Shelved) (P : Stop → Type 0) → IsShelf s → ((stop : Stop) → MayStop s stop → P stop) → Leaves s s P
leaves_start s P is here = grind (arith, nat_tests)

pub leaves_then : {a b c : Shelved} {P : Stop → Type 0} → Continues a b → Leaves a b P → Leaves b c P → Leaves a c P
leaves_then {a} {b} {c} {P} ab first next = grind (arith, nat_tests)

pub leaves_weaker : {a b : Shelved} {P Q : Stop → Type 0} → ((stop : Stop) → P stop → Q stop) → Leaves a b P → Leaves a b Q
leaves_weaker {a} {b} {P} {Q} to all = grind (arith, nat_tests)

-- device calls alone
pub leaves_quiet : {a b : Shelved} {Q : Stop → Type 0} {P : Stop → Type 0} → ((stop : Stop) → IsQuietBy a stop → Q stop → P stop) → LeavesOnly a b Q → Leaves a b P
leaves_quiet {a} {b} {Q} {P} to all = grind (arith, nat_tests)

-- while output is given, a stop leaves what it may leave before
pub leaves_giving : {a b : Shelved} {P : Stop → Type 0} → IsShelf a → OutputOnly a b
    → ((stop : Stop) → IsFrontOf a.output stop.output → IsFrontOf stop.output b.output → stop.taken ≡ a.taken → ((d : Device) → MayLeave (a.disk d) (stop.image d)) → IsCountedBy a stop → P stop) → Leaves a b P
leaves_giving {a} {b} {P} is gives here =
    let before_it : (stop : Stop) → MayStop a stop → P stop = λ stop may.
    here stop (subst (λ (l : List ℕ). IsFrontOf a.output l) (sym may.output) (front_refl a.output)) (subst (λ (l : List ℕ). IsFrontOf l b.output) (sym may.output) gives.continues.output) may.taken may.device may.counts in
    record {
      each = λ stop left. ⊎_elim (λ was. before_it stop (is.only_now stop was)) (λ now. here stop now.from now.to now.taken now.device now.counts) (gives.nothing_else a.moment stop (omega arith) left);
      before = λ t stop le left. ⊎_elim (λ was. inl was) (λ now. inr (here stop now.from now.to now.taken now.device now.counts)) (gives.nothing_else t stop le left);
    }

-- while input is taken, a stop leaves what it may leave before
pub leaves_taking : {a b : Shelved} {P : Stop → Type 0} → IsShelf a → TakenOnly a b
    → ((stop : Stop) → stop.output ≡ a.output → a.taken ≤ stop.taken → stop.taken ≤ b.taken → ((d : Device) → MayLeave (a.disk d) (stop.image d)) → IsCountedBy a stop → P stop) → Leaves a b P
leaves_taking {a} {b} {P} is takes here = grind (arith, nat_tests)
