-- A write on one more member.
use Rattle.world_clients.proofs.Prelude.{◌≡◌, inl, inr, ℕ, List, [], Bool, true, Result, Ok, Err, is_ok, OnOk, sym, subst, refl, Device, Disk, Written, WriteCounts, OneRange, drive, IsMember, OnMembers, Outcome}
use Rattle.world.specs.declared.streams.Failed.{Failed}

pub range_on_members : (members : List Bool) (slot at n : ℕ) → IsMember members slot → (d : Device) (i : ℕ) → OneRange (drive slot) at n d i → OnMembers members at n d i
range_on_members members slot at n member d i w = subst (λ (x : Device). OnMembers members at n x i) (sym w.0) (member, w.1)

pub outcome_of : (answer : Result (Unit {0}) Failed) (honest was : Type 0) (at : ℕ) (from : List ℕ) (old new : Disk) → was → (honest → OnOk answer (Written at from old.bytes new.bytes)) → (honest → OnOk answer (new.dirty ≡ [])) → WriteCounts answer old new
    → Outcome honest was (is_ok answer ≡ true) at from old new
outcome_of (Ok x) honest was at from old new member written clean counts = record {
  before = λ is. member;
  written = λ h is. written h;
  clean = λ h is. clean h;
  dropped = λ w. inl refl;
  others = λ none. absurd (none member);
}
outcome_of (Err x) honest was at from old new member written clean counts = record {
  before = λ is. member;
  written = λ h is. absurd (cc is);
  clean = λ h is. absurd (cc is);
  dropped = λ w. inr counts.write_faults;
  others = λ none. absurd (none member);
}
