-- Drives that have a flag and are shown are enough.
use Rattle.takeover.proofs.Prelude.{nat_tests, ◌≡◌, ◌⊎◌, inl, inr, ℕ, ◌+◌, ◌<◌, ◌≤◌, Bool, true, false, List, refl, sym, subst, arith, Option, Some, None, is_none, bytes_eq, cases_Bool, get_or_past, bytes_eq-Decides, Device, Drive, Nv, Geometry, Image, View, drive, nvram, BootRecord, set_count, BootSlot, IsBootRecord, body_in, names, of_members, spelling, AreSomeOf, AreEnough, Shelved, IsRecordOf, IsMember, none_past, unflagged}
use Rattle.std.proofs.Common.{IsSome}
use Rattle.nvram_log.specs.Members as nv

not_none : (o : Option (List ℕ)) → IsSome o → is_none o ≡ false
not_none (Some bytes) some = refl
not_none None some = absurd (cc some)

pub enough_shown : (shelf : Geometry) (flags : List Bool) (members : View) → shelf.slots ≤ set_count flags + 2 → ((i : ℕ) → i < shelf.slots → IsMember flags i → IsSome (members (drive i)))
    → ((i : ℕ) → shelf.slots ≤ i → IsMember flags i → ⊥) → AreEnough shelf members
enough_shown shelf flags members enough shown past =
    let few = unflagged (λ i. is_none (members (drive i))) flags 0 shelf.slots
    (λ i lt m. let e : 0 + i ≡ i = omega arith in subst (λ (k : ℕ). is_none (members (drive k)) ≡ false) (sym e) (not_none (members (drive i)) (shown i lt m))) past in
    omega (arith, few, enough)

-- where each drive shows its bytes or nothing, those that the record gives are some of those on which it stands
pub some_shown : (slot : BootSlot) (boot : BootRecord) (image : Image) (view : View) → ((i : ℕ) → (view (drive i) ≡ Some (image (drive i))) ⊎ (view (drive i) ≡ None)) → AreSomeOf slot boot image (of_members slot boot view)
some_shown slot boot image view shown i = elim (cases_Bool (names boot (drive i))) [
  | inr none ↦ inl (rw none refl)
  | inl named ↦ elim (shown i) [
    | inr silent ↦ inl (rw (named, silent) refl)
    | inl is ↦ elim (cases_Bool (bytes_eq (body_in slot (image (drive i))) (spelling boot))) [
      | inr other ↦ inl (rw (named, is, other) refl)
      | inl same ↦ inr (named, (bytes_eq-Decides (body_in slot (image (drive i))) (spelling boot)).0 same, rw (named, is, same) refl)
    ]
  ]
]

-- ---- the devices that a record names

-- an NVRAM device that it names is one of the two
pub log_below : (shelf : Geometry) (boot : BootRecord) → IsRecordOf shelf boot → (n : ℕ) → names boot (nvram n) ≡ true → n < 2
log_below shelf boot lawful n named = grind (arith, nat_tests, get_or_past)

-- it names no device that another one didn't, where it names fewer drives and NVRAM devices
pub names_fewer : (was now : BootRecord) → ((i : ℕ) → IsMember now.members.drives i → IsMember was.members.drives i) → nv.IsFewer was.members.nvrams now.members.nvrams
    → (d : Device) → names now d ≡ true → names was d ≡ true
names_fewer was now drives nvrams (Drive d) e = drives d.0 e
names_fewer was now drives nvrams (Nv n) e = nvrams n.0 e

-- No write is lost on those that it names, where so it is on the drives and NVRAM devices of the shelf.
pub names_unlost : (old new : Shelved) (was now : BootRecord) → IsBootRecord was → ((d : Device) → names now d ≡ true → names was d ≡ true)
    → ((i : ℕ) → i < was.slots → names now (drive i) ≡ true → (new.disk (drive i)).write_faults ≡ (old.disk (drive i)).write_faults)
    → ((n : ℕ) → n < 2 → names now (nvram n) ≡ true → (new.disk (nvram n)).write_faults ≡ (old.disk (nvram n)).write_faults)
    → (d : Device) → names now d ≡ true → (new.disk d).write_faults ≡ (old.disk d).write_faults
names_unlost old new was now h k l m d n = grind (arith, nat_tests, none_past, get_or_past)
