-- A store that is followed by another one, at any moment of both.
use Rattle.register.proofs.Prelude.{nat_tests, ◌≡◌, ◌⊎◌, inl, inr, ℕ, ◌≤◌, List, [], ◌∷◌, refl, arith, Bool, true, false, count_by, slice_index_or, Geometry, Condition, Conditions, Sound, Missing, LeftOut, MayBecome, IsBearable, IsWithin, is_missing, missing_drives, missing_nvrams, nvrams, slots_of, drive, nvram, BootRecord, spelling, BootSlot, other_slot, body_in, generation_in, counted, Shelved, Stop, Continues, IsCountedBy, geometry_of, has_risen, not_risen_before, not_risen_since, IsMember, AccountsFor, IsOlder, Register, IsNextOf}
use Rattle.pur_base.specs.declared.device.Device.TheVariants as dev
use Rattle.boot_region.proofs.StillGiven.{yields_or}

-- ---- conditions

-- a sound one is missing where this is not so
abbrev missing_unless : {P : Type 0} → P ⊎ (P → ⊥) → Condition → Condition
missing_unless (inl p) c = c
missing_unless (inr n) Sound = Missing
missing_unless (inr n) Missing = Missing
missing_unless (inr n) LeftOut = LeftOut

stays : {P : Type 0} (x : P ⊎ (P → ⊥)) (c : Condition) → missing_unless x c ≡ Sound → P
stays (inl p) c e = p
stays (inr n) Sound e = absurd (cc e)
stays (inr n) Missing e = absurd (cc e)
stays (inr n) LeftOut e = absurd (cc e)

becomes : {P : Type 0} (x : P ⊎ (P → ⊥)) (c : Condition) → MayBecome c (missing_unless x c)
becomes (inl p) Sound = inl refl
becomes (inl p) Missing = refl
becomes (inl p) LeftOut = refl
becomes (inr n) Sound = inr refl
becomes (inr n) Missing = refl
becomes (inr n) LeftOut = refl

-- what becomes of the condition later may become of this one, where a sound one keeps that
later_too : {P : Type 0} (x : P ⊎ (P → ⊥)) (c l : Condition) → MayBecome c l → (l ≡ Sound → P) → MayBecome (missing_unless x c) l
later_too (inl p) c l h keeps = h
later_too (inr n) Sound l (inl e) keeps = absurd (n (keeps e))
later_too (inr n) Sound l (inr e) keeps = e
later_too (inr n) Missing l h keeps = h
later_too (inr n) LeftOut l h keeps = h

pub missing_still : (a b : Condition) → MayBecome a b → is_missing a ≡ true → is_missing b ≡ true
missing_still Sound b h e = absurd (cc e)
missing_still Missing b h e = rw h refl
missing_still LeftOut b h e = rw h refl

pub count_le : (p q : ℕ → Bool) (xs : List ℕ) → ((i : ℕ) → p i ≡ true → q i ≡ true) → count_by p xs ≤ count_by q xs
count_le p q [] all = omega arith
count_le p q (x ∷ xs) all = grind (arith, nat_tests, counted, count_le p q xs all)

fewer_bearable : (shelf : Geometry) (missing more : Conditions) → IsWithin missing more → IsBearable shelf more → IsBearable shelf missing
fewer_bearable shelf missing more within bears = grind (arith, nat_tests, count_le, is_missing, drive, slots_of, missing_still, nvrams, nvram)

pub bearable_or : (shelf : Geometry) (missing : Conditions) → IsBearable shelf missing ⊎ (IsBearable shelf missing → ⊥)
bearable_or shelf missing = grind (arith, nat_tests, missing_drives, missing_nvrams, nvrams)

-- ---- moments

-- at that moment a drive lost no write, and what a failed read of it might let be shown loses: it need not be missing then
abbrev MayStay : Shelved → Shelved → List Bool → BootSlot → List ℕ → ℕ → Type 0
MayStay old mid members slot held i = IsMember members i
    → ((has_risen (old.disk (drive i)).faults (mid.disk (drive i)).faults ≡ false) ⊎ (has_risen (old.disk (drive i)).write_faults (mid.disk (drive i)).write_faults ≡ false))
    × (IsOlder old slot held i ⊎ (has_risen (old.disk (drive i)).faults (mid.disk (drive i)).faults ≡ false))

may_stay_or : (member risen lost : Bool) (older : Type 0) → older ⊎ (older → ⊥)
    → (member ≡ true → ((risen ≡ false) ⊎ (lost ≡ false)) × (older ⊎ (risen ≡ false))) ⊎ ((member ≡ true → ((risen ≡ false) ⊎ (lost ≡ false)) × (older ⊎ (risen ≡ false))) → ⊥)
may_stay_or false risen lost older x = inl (λ e. absurd (cc e))
may_stay_or true false lost older x = inl (λ e. (inl refl, inr refl))
may_stay_or true true true older x = inr (λ f. elim (f refl).0 [ inl e ↦ absurd (cc e) | inr e ↦ absurd (cc e) ])
may_stay_or true true false older (inl is) = inl (λ e. (inr refl, inl is))
may_stay_or true true false older (inr none) = inr (λ f. elim (f refl).1 [ inl is ↦ none is | inr e ↦ absurd (cc e) ])

module _ (old mid : Shelved) (members : List Bool) (missing : Conditions) (slot : BootSlot) (held : BootRecord) where
  stay_or : (i : ℕ) → MayStay old mid members slot (spelling held) i ⊎ (MayStay old mid members slot (spelling held) i → ⊥)
  stay_or i = may_stay_or (slice_index_or members i false) (has_risen (old.disk (drive i)).faults (mid.disk (drive i)).faults) (has_risen (old.disk (drive i)).write_faults (mid.disk (drive i)).write_faults)
      (IsOlder old slot (spelling held) i) (yields_or (other_slot slot) (generation_in (body_in slot (old.disk (drive i)).bytes)) (generation_in (spelling held)))

  -- the conditions at that moment, of which no more devices are missing than must be
  pub meanwhile : Conditions
  meanwhile (dev.Drive d) = missing_unless (stay_or d.0) (missing (dev.Drive d))
  meanwhile (dev.Nv n) = missing (dev.Nv n)

  meanwhile_within : IsWithin missing meanwhile
  unfolding meanwhile
  meanwhile_within (dev.Drive d) = becomes (stay_or d.0) (missing (dev.Drive d))
  meanwhile_within (dev.Nv n) = same (missing (dev.Nv n))
    where
      same : (c : Condition) → MayBecome c c
      same Sound = inl refl
      same Missing = refl
      same LeftOut = refl

  pub accounts : IsBearable (geometry_of old) meanwhile → AccountsFor old members missing slot (spelling held) (λ d. (mid.disk d).faults) (λ d. (mid.disk d).write_faults) meanwhile
  unfolding meanwhile
  accounts bears = record {
    within = meanwhile_within;
    bearable = bears;
    writes = λ i m s. (stays (stay_or i) (missing (drive i)) s m).0;
    reads = λ i m s. (stays (stay_or i) (missing (drive i)) s m).1;
  }

  -- what is known of a later stop
  module _ (stop : Stop) (counts : IsCountedBy mid stop) (later : Conditions) (account : AccountsFor old members missing slot (spelling held) stop.faults stop.write_faults later) where
    kept : (i : ℕ) → later (drive i) ≡ Sound → MayStay old mid members slot (spelling held) i
    kept i s m = grind (arith, nat_tests, not_risen_before)

    within_later : IsWithin meanwhile later
    unfolding meanwhile
    within_later (dev.Drive d) = later_too (stay_or d.0) (missing (dev.Drive d)) (later (dev.Drive d)) (account.within (dev.Drive d)) (λ s. kept d.0 s)
    within_later (dev.Nv n) = account.within (dev.Nv n)

    pub bearable_then : IsBearable (geometry_of old) meanwhile
    bearable_then = fewer_bearable (geometry_of old) meanwhile later within_later account.bearable

    -- and of what happened since
    module _ (now : List Bool) (next : BootSlot) (boot : BootRecord) (on : Continues old mid) (fewer : (i : ℕ) → IsMember now i → IsMember members i) (older : (i : ℕ) → IsMember now i → IsOlder mid next (spelling boot) i)
        (same_shelf : geometry_of mid ≡ geometry_of old) where
      pub accounts_since : AccountsFor mid now meanwhile next (spelling boot) stop.faults stop.write_faults later
      accounts_since = grind (arith, nat_tests, within_later, not_risen_since)

-- a record that follows on a next one is a next one
pub next_after : (was mid : Register) (nvrams : List Bool) → IsNextOf was nvrams mid.record → ((i : ℕ) → IsMember mid.drives i → IsMember was.drives i) → (b : BootRecord) → IsNextOf mid nvrams b → IsNextOf was nvrams b
next_after was mid nvrams first fewer b next = grind (arith, nat_tests)
