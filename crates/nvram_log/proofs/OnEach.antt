-- A call on one more member.
use Rattle.nvram_log.proofs.Prelude.{nat_tests, ◌≡◌, ◌≢◌, ◌+◌, ◌<◌, ◌≤◌, ℕ, List, [], Bool, true, false, length, slice_index_or, slice_set, Result, Ok, Err, is_ok, OnOk, sym, subst, ◌∙◌, arith, below_more, get_or-set_other, get_or-set_same, nvram, Device, Drive, Nv, Disk, Shelved, WriteCounts, OneRange, Only, Failed, IsMember, IsOnMember, OnRange, Outcome}

number : Device → ℕ
number (Drive d) = d.0
number (Nv n) = n.0

pub nvrams_apart : (a b : ℕ) → a ≢ b → nvram a ≢ nvram b
unfolding number
nvrams_apart a b ne e = ne (λ i. number (e i))

pub range_on_members : (members : List Bool) (n at size : ℕ) → IsMember members n → (d : Device) (i : ℕ) → OneRange (nvram n) at size d i → OnRange members at size d i
range_on_members members n at size member d i w = subst (λ (x : Device). OnRange members at size x i) (sym w.0) (member, w.1)

pub only_member : (members : List Bool) (n : ℕ) → IsMember members n → (d : Device) → Only (nvram n) d → IsOnMember members d
only_member members n member d is = subst (IsOnMember members) (sym is) member

pub outcome_of : (answer : Result (Unit {0}) Failed) (honest was holds : Type 0) (old new : Disk) → was → (honest → OnOk answer holds) → (honest → OnOk answer (new.dirty ≡ [])) → WriteCounts answer old new
    → Outcome honest was (is_ok answer ≡ true) holds old new
outcome_of (Ok x) honest was holds old new member written clean counts = grind (arith, nat_tests)
outcome_of (Err x) honest was holds old new member written clean counts = grind (arith, nat_tests)

-- one that was no member stays as it was
pub outcome_apart : (honest was is holds : Type 0) (old new : Disk) → (was → ⊥) → (is → ⊥) → new ≡ old → Outcome honest was is holds old new
outcome_apart honest was is holds old new was_none is_none same = grind (arith, nat_tests)

-- A call was made on each member in front of one, and the devices from there on are as they were. What a call holds where it answered Ok is told of the disk before it and after it.
pub record AreEach (holds : ℕ → Disk → Disk → Type 0) (was now : List Bool) (a b : Shelved) (n : ℕ) : Type 0 where
  pub passed : (d : ℕ) → d < n → Outcome a.honest (IsMember was d) (IsMember now d) (holds d (a.disk (nvram d)) (b.disk (nvram d))) (a.disk (nvram d)) (b.disk (nvram d))
  pub flag_ahead : (d : ℕ) → n ≤ d → slice_index_or now d false ≡ slice_index_or was d false
  pub disk_ahead : (d : ℕ) → n ≤ d → b.disk (nvram d) ≡ a.disk (nvram d)

module _ {holds : ℕ → Disk → Disk → Type 0} {was now : List Bool} {a b : Shelved} {n : ℕ} (each : AreEach holds was now a b n) where
  pub disk_here : b.disk (nvram n) ≡ a.disk (nvram n)
  disk_here = each.disk_ahead n (omega arith)

  pub was_member : IsMember now n → IsMember was n
  was_member is = sym (each.flag_ahead n (omega arith)) ∙ is

  -- the next one is a member
  pub each_more : {c : Shelved} (answer : Result (Unit {0}) Failed) (ok : Bool) → ok ≡ is_ok answer → n < length now → IsMember now n → ((d : Device) → d ≢ nvram n → c.disk d ≡ b.disk d)
      → (a.honest → OnOk answer (holds n (b.disk (nvram n)) (c.disk (nvram n)))) → (a.honest → OnOk answer ((c.disk (nvram n)).dirty ≡ [])) → WriteCounts answer (b.disk (nvram n)) (c.disk (nvram n))
      → AreEach holds was (slice_set now n ok) a c (n + 1)
  each_more {c} answer ok ok_is lt member others written clean counts = record {
    passed = below_more _ _ (λ d less. let ne : d ≢ n = omega (arith, less) in rw (get_or-set_other, others (nvram d) (nvrams_apart d n ne)) (each.passed d less))
        (rw (get_or-set_same, ok_is, ← disk_here) (outcome_of answer a.honest _ _ _ _ (was_member member) written clean counts));
    flag_ahead = λ d le. let ne : d ≢ n = omega (arith, le) in rw get_or-set_other (each.flag_ahead d (omega (arith, le)));
    disk_ahead = λ d le. let ne : d ≢ n = omega (arith, le) in others (nvram d) (nvrams_apart d n ne) ∙ each.disk_ahead d (omega (arith, le));
  }

  -- it is none
  pub each_past : slice_index_or now n false ≡ false → AreEach holds was now a b (n + 1)
  each_past none =
      let gone : IsMember now n → ⊥ = λ is. absurd (cc (is, none)) in
      record {
        passed = below_more _ _ each.passed (outcome_apart _ _ _ _ _ _ (λ m. gone (each.flag_ahead n (omega arith) ∙ m)) gone disk_here);
        flag_ahead = λ d le. each.flag_ahead d (omega (arith, le));
        disk_ahead = λ d le. each.disk_ahead d (omega (arith, le));
      }

pub always : (answer : Result (Unit {0}) Failed) (P : Type 0) → P → OnOk answer P
always (Ok x) P p = p
always (Err x) P p = tt
