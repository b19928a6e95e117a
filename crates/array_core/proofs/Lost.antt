-- More devices are lost than are borne.
use Rattle.array_core.proofs.Prelude.{nat_tests, ◌≡◌, ◌⊎◌, inl, inr, ℕ, zero, suc, ◌+◌, ◌≤◌, ◌<◌, List, [], ◌∷◌, subst, arith, Bool, true, false, cond, count_by, range_with_len, cases_Bool, Device, Geometry, Conditions, Sound, is_missing, IsBearable, drive, nvram, set_count, one_left, counted, not_missing, Shelved, geometry_of, has_risen, not_risen, IsMember, IsRegisterOf, IsHolder, lost_since, IsLost, LostLog, LostDrives, sound_since}
use Rattle.nvram_log.specs.Members as nv
use Rattle.array_core.specs.declared.array.Array.{Array}

-- of so many drives each is one of the bad ones, or has a flag
pub enough : (bad : ℕ → Bool) (flags : List Bool) (a n : ℕ) → ((i : ℕ) → i < n → (bad (a + i) ≡ true) ⊎ IsMember flags i) → n ≤ count_by bad (range_with_len a n) + count_by (λ b. b) flags
enough bad flags a zero each = omega arith
enough bad [] a (suc n) each =
    let rest = enough bad [] (a + 1) n (λ i lt. elim (each (suc i) (omega (arith, lt))) [ inl is ↦ inl (subst (λ (k : ℕ). bad k ≡ true) (shifted i) is) | inr m ↦ absurd (cc m) ]) in
    let first : bad a ≡ true = elim (each 0 (omega arith)) [ inl is ↦ subst (λ (k : ℕ). bad k ≡ true) (unshifted) is | inr m ↦ absurd (cc m) ] in
    omega (arith, rest, counted bad a (range_with_len (a + 1) n), one (bad a) first)
  where
    shifted : (i : ℕ) → a + suc i ≡ a + 1 + i
    shifted i = omega arith

    unshifted : a + 0 ≡ a
    unshifted = omega arith

    one : (b : Bool) → b ≡ true → 1 ≤ cond b 1 0
    one true e = omega arith
    one false e = absurd (cc e)
enough bad (f ∷ fs) a (suc n) each =
    let rest = enough bad fs (a + 1) n (λ i lt. elim (each (suc i) (omega (arith, lt))) [ inl is ↦ inl (subst (λ (k : ℕ). bad k ≡ true) (shifted i) is) | inr m ↦ inr m ]) in
    omega (arith, rest, counted bad a (range_with_len (a + 1) n), counted (λ (b : Bool). b) f fs, some (bad a) f (elim (each 0 (omega arith)) [ inl is ↦ inl (subst (λ (k : ℕ). bad k ≡ true) unshifted is) | inr m ↦ inr m ]))
  where
    shifted : (i : ℕ) → a + suc i ≡ a + 1 + i
    shifted i = omega arith

    unshifted : a + 0 ≡ a
    unshifted = omega arith

    some : (b c : Bool) → (b ≡ true) ⊎ (c ≡ true) → 1 ≤ cond b 1 0 + cond c 1 0
    some true c e = omega arith
    some false true e = omega arith
    some false false (inl e) = absurd (cc e)
    some false false (inr e) = absurd (cc e)

-- at most two drives of the shelf don't have such a flag
pub few_lack : (shelf : Geometry) (missing : Conditions) (flags : List Bool) → IsBearable shelf missing → ((i : ℕ) → i < shelf.slots → missing (drive i) ≡ Sound → IsMember flags i) → shelf.slots ≤ set_count flags + 2
few_lack shelf missing flags bears sound =
    omega (arith, bears.drives, enough (λ i. is_missing (missing (drive i))) flags 0 shelf.slots (λ i lt. subst (λ (k : ℕ). (is_missing (missing (drive k)) ≡ true) ⊎ IsMember flags i) (from_zero i) (each i lt)))
  where
    from_zero : (i : ℕ) → i ≡ 0 + i
    from_zero i = omega arith

    each : (i : ℕ) → i < shelf.slots → (is_missing (missing (drive i)) ≡ true) ⊎ IsMember flags i
    each i lt = elim (cases_Bool (is_missing (missing (drive i)))) [
      | inl is ↦ inl is
      | inr is ↦ inr (sound i lt (not_missing (missing (drive i)) is))
    ]

-- what is lost isn't borne
module _ (old new : Shelved) (a : Array) (conditions : Conditions) (is : IsRegisterOf (geometry_of old) a.register) (holders : (d : Device) → conditions d ≡ Sound → IsHolder a d) where
  abbrev missing : Conditions
  missing = lost_since old new conditions

  log_left : LostLog old new a.log.members → (n : ℕ) → n < 2 → missing (nvram n) ≡ Sound → ⊥
  log_left lost n lt s = grind (arith, nat_tests, sound_since, has_risen, nvram, not_risen)

  drives_left : LostDrives old new a.register → IsBearable (geometry_of old) missing → ⊥
  drives_left lost bears =
      let few : old.drives ≤ _ = few_lack (geometry_of old) missing lost.left bears (λ i lt s.
      let was = sound_since (has_risen (old.disk (drive i)).write_faults (new.disk (drive i)).write_faults) (conditions (drive i)) s in
      elim (lost.dropped i (holders (drive i) was.0)) [
        | inl left ↦ left
        | inr rose ↦ absurd (not_risen (old.disk (drive i)).write_faults (new.disk (drive i)).write_faults was.1 rose.write_faults)
      ]) in
      omega (arith, few, lost.too_few, is.lawful.slots)

  pub lost_unborne : IsLost old new a → IsBearable (geometry_of old) missing → ⊥
  lost_unborne (inl log) bears = elim (one_left (missing (nvram 0)) (missing (nvram 1)) bears.nvrams) [
    | inl s ↦ log_left log 0 (omega arith) s
    | inr s ↦ log_left log 1 (omega arith) s
  ]
  lost_unborne (inr drives) bears = drives_left drives bears

-- where no member of the log is left, each lost a write
pub lost_log : (old new : Shelved) (was now : List Bool) → nv.DroppedFailed old new was now → (nv.IsSome now → ⊥) → LostLog old new was
lost_log old new was now dropped none zero lt mem = elim (dropped 0 lt mem) [ inl is ↦ absurd (none (inl is)) | inr rose ↦ rose ]
lost_log old new was now dropped none (suc zero) lt mem = elim (dropped 1 lt mem) [ inl is ↦ absurd (none (inr is)) | inr rose ↦ rose ]
lost_log old new was now dropped none (suc (suc n)) lt mem = absurd (omega (arith, lt))
