-- A store that goes on until the record is on all drives that it names.
use Rattle.std.proofs.lemmas.Bool.Decides.{nat_tests}
use Rattle.std.proofs.Common.{◌≡◌, inl, inr, ℕ, ◌<◌, ◌≤◌, List, Bool, refl, ◌∙◌, arith, length, Result, Ok, Err, OnOk, OnErr}
use Rattle.std.specs.Prelude.{IsOk, IfErr, ◌⊎◌, ◌+◌}
use Rattle.std.proofs.lemmas.List.{length-take}
use Rattle.array_spec.specs.Prelude.{Geometry, Sound, drive, set_count, Device, named_sound}
use Rattle.boot_region.specs.Prelude.{IsMember}
use Rattle.pur_base.specs.declared.device.Device.TheVariants as dev
use Rattle.register.specs.declared.next.StoreFault.{StoreFault}
use Rattle.register.specs.declared.next.StoreFault.TheVariants.{Spent, TooFew}
use Rattle.register.specs.declared.state.Register.{Register}
use Rattle.register.specs.Faults.{EndedMidway, IsFaultOf}
use Rattle.register.specs.Registers.{IsRegisterOf, OnSlots, drives_of}
use Rattle.register.specs.lemmas.Flags.{few_set, fewer_mask, same_count, in_cut, cut_in, not_below}

-- fewer drives in all are fewer of the shelf's
pub fewer_cut : (was now : Register) → now.record.slots ≡ was.record.slots → ((i : ℕ) → IsMember now.drives i → IsMember was.drives i) → (i : ℕ) → IsMember (drives_of now) i → IsMember (drives_of was) i
fewer_cut was now slots fewer i m = grind (arith, nat_tests, cut_in, in_cut, not_below)

-- what is written in the slots of fewer drives
pub on_more : (m0 m1 : List Bool) → ((i : ℕ) → IsMember m1 i → IsMember m0 i) → (d : Device) (i : ℕ) → OnSlots m1 d i → OnSlots m0 d i
on_more m0 m1 fewer (dev.Drive d) i (inl (inl w)) = inl (inl (fewer d.0 w.0, w.1))
on_more m0 m1 fewer (dev.Drive d) i (inl (inr w)) = inl (inr (fewer d.0 w.0, w.1))
on_more m0 m1 fewer (dev.Drive d) i (inr (inl w)) = inr (inl (fewer d.0 w.0, w.1))
on_more m0 m1 fewer (dev.Drive d) i (inr (inr w)) = inr (inr (fewer d.0 w.0, w.1))
on_more m0 m1 fewer (dev.Nv n) i (inl (inl w)) = absurd w
on_more m0 m1 fewer (dev.Nv n) i (inl (inr w)) = absurd w
on_more m0 m1 fewer (dev.Nv n) i (inr (inl w)) = absurd w
on_more m0 m1 fewer (dev.Nv n) i (inr (inr w)) = absurd w

-- where a drive that was named is left out, fewer are left
pub fewer_left : (was now named : List Bool) → length now ≡ length was → ((i : ℕ) → IsMember now i → IsMember was i) → named ≡ was → (now ≡ named → ⊥) → set_count now < set_count was
fewer_left was now named len fewer is differs = grind (arith, nat_tests, set_count, same_count)

pub on_ok : {T E P Q : Type 0} (r : Result T E) → (P → Q) → OnOk r P → OnOk r Q
on_ok (Ok x) f p = f p
on_ok (Err e) f p = tt

pub on_err : {T E P Q : Type 0} (r : Result T E) → (P → Q) → OnErr r P → OnErr r Q
on_err (Ok x) f p = tt
on_err (Err e) f p = f p

pub from_ok : {T E P : Type 0} (r : Result T E) → OnOk r P → IsOk r → P
from_ok (Ok x) p is = p
from_ok (Err e) p is = absurd (cc is)

pub when_ok : {T E P : Type 0} (r : Result T E) → (IsOk r → P) → OnOk r P
when_ok (Ok x) f = f refl
when_ok (Err e) f = tt

pub for_err : {T E : Type 0} {P : E → Type 0} (r : Result T E) → ((e : E) → P e) → IfErr r P
for_err (Ok x) f = tt
for_err (Err e) f = f e

pub if_err : {T E : Type 0} {P Q : E → Type 0} (r : Result T E) → ((e : E) → P e → Q e) → IfErr r P → IfErr r Q
if_err (Ok x) f p = tt
if_err (Err e) f p = f e p

-- a store of a later record that ended with too few drives
pub ended_midway : (P : Type 0) (was now : Register) (r : Result (Unit {0}) StoreFault) → was.record.generation < now.record.generation → OnErr r (set_count now.drives + 2 < now.record.slots) → IfErr r (λ e. IsFaultOf now e)
    → IfErr r (λ e. P ⊎ EndedMidway was now e)
ended_midway P was now (Ok x) later few fault = tt
ended_midway P was now (Err (TooFew drives)) later few fault = inr (later, few)
ended_midway P was now (Err Spent) later few fault = absurd (omega (arith, few, fault.0))

-- and one that did so after another record was stored
pub midway_then : (was mid now : Register) (e : StoreFault) → was.record.generation ≤ mid.record.generation → EndedMidway mid now e → EndedMidway was now e
midway_then was mid now (TooFew drives) le midway = (omega (arith, le, midway.0), midway.1)
midway_then was mid now Spent le midway = midway

-- no more drives are left than the shelf has
pub at_most_slots : {shelf : Geometry} (r : Register) → IsRegisterOf shelf r → set_count r.drives ≤ r.record.slots
at_most_slots {shelf} r is = few_set r.drives r.record.slots (let le = fewer_mask r.drives r.record.members.drives is.named in omega (arith, le, is.lawful.lawful.members.within))

-- as many flags are left as the shelf has drives
pub cut_length : {shelf : Geometry} (r : Register) → length r.drives ≡ 24 → IsRegisterOf shelf r → length (drives_of r) ≡ shelf.slots
cut_length {shelf} r flags is = let few = is.lawful.lawful.slots.1 in length-take r.record.slots r.drives ∙ omega (arith, flags, few) ∙ is.lawful.slots

-- each drive that is left is one that the record names
pub members_sound : {shelf : Geometry} (r : Register) → IsRegisterOf shelf r → (i : ℕ) → IsMember (drives_of r) i → named_sound r.record (drive i) ≡ Sound
members_sound {shelf} r is i m = let named = is.named i (in_cut r.drives r.record.slots i m) in rw named refl
