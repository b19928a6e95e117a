-- A write on one more member.
use Rattle.boot_region.proofs.Prelude.{nat_tests, ◌≡◌, ◌≢◌, ◌+◌, ◌<◌, ◌≤◌, ℕ, List, [], Bool, true, false, length, slice_index_or, slice_set, Result, Ok, Err, is_ok, OnOk, sym, subst, ◌∙◌, arith, below_more, get_or-set_other, get_or-set_same, Device, drive, drives_apart, Failed, Disk, Shelved, Written, WriteCounts, OneRange, Only, IsMember, IsOneOf, OnMembers, Outcome}

pub range_on_members : (members : List Bool) (slot at n : ℕ) → IsMember members slot → (d : Device) (i : ℕ) → OneRange (drive slot) at n d i → OnMembers members at n d i
range_on_members members slot at n member d i w = subst (λ (x : Device). OnMembers members at n x i) (sym w.0) (member, w.1)

pub only_member : (members : List Bool) (slot : ℕ) → IsMember members slot → (d : Device) → Only (drive slot) d → IsOneOf members d
only_member members slot member d is = subst (IsOneOf members) (sym is) member

pub outcome_of : (answer : Result (Unit {0}) Failed) (honest was : Type 0) (at : ℕ) (from : List ℕ) (old new : Disk) → was → (honest → OnOk answer (Written at from old.bytes new.bytes)) → (honest → OnOk answer (new.dirty ≡ [])) → WriteCounts answer old new
    → Outcome honest was (is_ok answer ≡ true) at from old new
outcome_of (Ok x) honest was at from old new member written clean counts = grind (arith, nat_tests)
outcome_of (Err x) honest was at from old new member written clean counts = grind (arith, nat_tests)

pub outcome_apart : {honest was is : Type 0} {at : ℕ} {from : List ℕ} {old new : Disk} → (was → ⊥) × (is → ⊥) → Outcome honest was is at from old new
outcome_apart {honest} {was} {is} {at} {from} {old} {new} none = grind (arith, nat_tests)

-- A call was made on each member in front of one, and the drives from there on are as they were. Of a drive P tells by its disk, before and after, what its call left.
pub record AreEach (P : ℕ → Type 0 → Disk → Disk → Type 0) (was now : List Bool) (a b : Shelved) (n : ℕ) : Type 0 where
  pub passed : (d : ℕ) → d < n → P d (IsMember now d) (a.disk (drive d)) (b.disk (drive d))
  pub flag_ahead : (d : ℕ) → n ≤ d → slice_index_or now d false ≡ slice_index_or was d false
  pub disk_ahead : (d : ℕ) → n ≤ d → b.disk (drive d) ≡ a.disk (drive d)

module _ {P : ℕ → Type 0 → Disk → Disk → Type 0} {was now : List Bool} {a b : Shelved} {n : ℕ} (each : AreEach P was now a b n) where
  pub disk_here : b.disk (drive n) ≡ a.disk (drive n)
  disk_here = each.disk_ahead n (omega arith)

  pub was_member : IsMember now n → IsMember was n
  was_member is = sym (each.flag_ahead n (omega arith)) ∙ is

  pub not_member : slice_index_or now n false ≡ false → (IsMember was n → ⊥) × (IsMember now n → ⊥)
  not_member none = (λ is. absurd (cc (each.flag_ahead n (omega arith), none, is)), λ is. absurd (cc (none, is)))

  -- the next one is a member, or it is none
  pub each_more : {c : Shelved} (ok : Bool) {is : Bool} → ok ≡ is → n < length now → ((d : Device) → d ≢ drive n → c.disk d ≡ b.disk d) → P n (is ≡ true) (b.disk (drive n)) (c.disk (drive n)) → AreEach P was (slice_set now n ok) a c (n + 1)
  each_more {c} ok ok_is lt others here = record {
    passed = below_more _ _ (λ d less. let ne : d ≢ n = omega (arith, less) in rw (get_or-set_other, others (drive d) (drives_apart d n ne)) (each.passed d less)) (rw (get_or-set_same, ok_is, ← disk_here) here);
    flag_ahead = λ d le. let ne : d ≢ n = omega (arith, le) in rw get_or-set_other (each.flag_ahead d (omega (arith, le)));
    disk_ahead = λ d le. let ne : d ≢ n = omega (arith, le) in others (drive d) (drives_apart d n ne) ∙ each.disk_ahead d (omega (arith, le));
  }

  pub each_past : P n (IsMember now n) (a.disk (drive n)) (b.disk (drive n)) → AreEach P was now a b (n + 1)
  each_past here = record { passed = below_more _ _ each.passed here; flag_ahead = λ d le. each.flag_ahead d (omega (arith, le)); disk_ahead = λ d le. each.disk_ahead d (omega (arith, le)) }
