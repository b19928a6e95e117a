-- Which devices hold the array no more after a command, and which records are stored.
use Rattle.array_core.proofs.Prelude.{nat_tests, ◌≡◌, ◌⊎◌, inl, inr, ℕ, ◌+◌, ◌<◌, ◌≤◌, List, [], ◌∷◌, length, refl, sym, ◌∙◌, ap, subst, arith, Bool, true, false, length-take, Geometry, drive, nvram, Device, Drive, Nv, BootRecord, set_count, names, Rises, has_risen, Shelved, Disk, MayRise, risen, IsMember, DroppedFailed, member_below, Register, IsRegisterOf, IsLaterRecord, drives_of, few_set, fewer_count, in_cut, cut_in, DropsFailedBy, HasEnough, IsHolderBy, NoneJoins}
use Rattle.nvram_log.specs.Members as nv
use Rattle.array_core.specs.declared.array.Array.{Array}

-- ---- counts of failed calls at each moment

-- ---- who is dropped

-- a flag that isn't set any more, where the flags are others
one_unset : (before now : List Bool) → length before ≡ 2 → length now ≡ 2 → (now ≡ before → ⊥) → nv.IsFewer before now → (n : ℕ) × (n < 2) × nv.IsMember before n × (nv.IsMember now n → ⊥)
one_unset before now two two_now other fewer = of before now two two_now other fewer
  where
    of_two : (a b c d : Bool) → ((c ∷ d ∷ []) ≡ (a ∷ b ∷ []) → ⊥) → (c ≡ true → a ≡ true) → (d ≡ true → b ≡ true)
        → (n : ℕ) × (n < 2) × nv.IsMember (a ∷ b ∷ []) n × (nv.IsMember (c ∷ d ∷ []) n → ⊥)
    of_two true b false d other first second = (0, omega arith, refl, λ e. cc e)
    of_two false b true d other first second = absurd (cc (first refl))
    of_two true true true false other first second = (1, omega arith, refl, λ e. cc e)
    of_two false true false false other first second = (1, omega arith, refl, λ e. cc e)
    of_two true false true true other first second = absurd (cc (second refl))
    of_two false false false true other first second = absurd (cc (second refl))
    of_two true true true true other first second = absurd (other refl)
    of_two true false true false other first second = absurd (other refl)
    of_two false true false true other first second = absurd (other refl)
    of_two false false false false other first second = absurd (other refl)

    of : (before now : List Bool) → length before ≡ 2 → length now ≡ 2 → (now ≡ before → ⊥) → nv.IsFewer before now → (n : ℕ) × (n < 2) × nv.IsMember before n × (nv.IsMember now n → ⊥)
    of (a ∷ b ∷ []) (c ∷ d ∷ []) two two_now other fewer = of_two a b c d other (fewer 0) (fewer 1)
    of (a ∷ b ∷ []) [] two two_now other fewer = absurd (omega (arith, two_now))
    of (a ∷ b ∷ []) (c ∷ []) two two_now other fewer = absurd (omega (arith, two_now))
    of (a ∷ b ∷ []) (c ∷ d ∷ e ∷ rest) two two_now other fewer = absurd (omega (arith, two_now))
    of _ now two two_now other fewer = absurd (omega (arith, two))

-- the log is written from old to mid, and a record may be stored from mid to new
module _ (old mid new : Shelved) (was now : Register) (members left : List Bool) (two : length members ≡ 2)
    (same : (i : ℕ) → mid.disk (drive i) ≡ old.disk (drive i)) (kept : (n : ℕ) → new.disk (nvram n) ≡ mid.disk (nvram n))
    (logs : nv.LosesOnlyFailed old mid members left) (drives : DroppedFailed mid new (drives_of was) (drives_of now))
    (unlost : (i : ℕ) → IsMember (drives_of now) i → (new.disk (drive i)).write_faults ≡ (mid.disk (drive i)).write_faults) where
  below : (n : ℕ) → nv.IsMember members n → n < 2
  below n h = omega (arith, two, member_below members n h)

  leaves : (d : Device) → IsHolderBy was members d → IsHolderBy now left d ⊎ Rises (old.disk d).write_faults (new.disk d).write_faults
  leaves (Drive d) h = elim (drives d.0 h) [
    | inl is ↦ inl is
    | inr rose ↦ inr (subst (λ (k : Disk). Rises k.write_faults (new.disk (Drive d)).write_faults) (same d.0) rose.write_faults)
  ]
  leaves (Nv n) h = elim (logs.dropped n.0 (below n.0 h) h) [
    | inl is ↦ inl is
    | inr rose ↦ inr (subst (λ (k : Disk). Rises (old.disk (Nv n)).write_faults k.write_faults) (sym (kept n.0)) rose)
  ]

  stays : (d : Device) → IsHolderBy now left d → (new.disk d).write_faults ≡ (old.disk d).write_faults
  stays (Drive d) h = unlost d.0 h ∙ ap (λ (k : Disk). k.write_faults) (same d.0)
  stays (Nv n) h = ap (λ (k : Disk). k.write_faults) (kept n.0) ∙ logs.unlost n.0 (below n.0 (logs.fewer n.0 h)) h

  pub drops_failed : DropsFailedBy old new was members now left
  drops_failed = record { leaves = leaves; unlost = stays }

-- ---- who joins

pub fewer_drives : (was now : Register) → IsLaterRecord was.record now.record → ((i : ℕ) → IsMember now.drives i → IsMember was.drives i) → (i : ℕ) → IsMember (drives_of now) i → IsMember (drives_of was) i
fewer_drives was now later fewer i m = grind (arith, nat_tests, cut_in, member_below, drives_of, length-take, in_cut)

pub none_joins : (shelf : Geometry) (was now : Array) (nvrams : List Bool) → IsRegisterOf shelf was.register → IsLaterRecord was.register.record now.register.record
    → ((i : ℕ) → IsMember now.register.drives i → IsMember was.register.drives i) → nv.IsFewer was.log.members now.log.members → nvrams ≡ now.log.members
    → (now.register.record.members.drives ≡ now.register.drives) × (now.register.record.members.nvrams ≡ nvrams) → HasEnough now.register → NoneJoins was now
none_joins shelf was now nvrams is later fewer fewer_nvrams log members enough = grind (arith, nat_tests, fewer_drives, names)

-- ---- how far the generation rises

-- where the flags of the log aren't those of before, a device lost a write, and few records were stored
pub rises_little : (old mid new : Shelved) (before now_nvrams : List Bool) (was now : Register) → length before ≡ 2 → length now_nvrams ≡ 2 → (now_nvrams ≡ before → ⊥) → nv.IsFewer before now_nvrams
    → nv.DroppedFailed old mid before now_nvrams → ((n : ℕ) → new.disk (nvram n) ≡ mid.disk (nvram n))
    → IsRegisterOf (record { slots = old.drives; units = old.units }) was → IsLaterRecord was.record now.record → was.record.generation < now.record.generation
    → now.record.slots ≤ set_count now.drives + 2 → now.record.generation + set_count now.drives ≤ was.record.generation + set_count was.drives + 1
    → MayRise (λ d. has_risen (old.disk d).write_faults (new.disk d).write_faults) was.record now.record
rises_little old mid new before now_nvrams was now two two_now other fewer dropped kept is later rises enough stores =
    let one = one_unset before now_nvrams two two_now other fewer in
    let slots : now.record.slots ≡ was.record.slots = ap (λ (b : BootRecord). b.slots) later.rest in
    let fewer_set : set_count was.drives ≤ set_count was.record.members.drives = fewer_count was.drives was.record.members.drives is.named in
    let most : set_count was.record.members.drives ≤ was.record.slots = few_set was.record.members.drives was.record.slots is.lawful.lawful.members.within in
    inr (
      nvram one.0,
      elim (dropped one.0 one.1 one.2) [
        | inl still ↦ absurd (one.3 still)
        | inr rose ↦ risen (old.disk (nvram one.0)).write_faults (old.disk (nvram one.0)).write_faults (new.disk (nvram one.0)).write_faults (new.disk (nvram one.0)).write_faults (omega arith)
            (subst (λ (k : Disk). Rises (old.disk (nvram one.0)).write_faults k.write_faults) (sym (kept one.0)) rose) (omega arith)
      ],
      rises,
      omega (arith, slots, fewer_set, most, enough, stores),
      later.rest,
    )
