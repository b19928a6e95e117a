-- What segments hold on drives still stands on those that are left, where nothing but the boot region was written.
use Rattle.array_core.proofs.Prelude.{nat_tests, ◌≡◌, ◌⊎◌, inl, inr, ℕ, suc, ◌+◌, ◌*◌, ◌^◌, ◌≤◌, ◌<◌, List, [], ◌∷◌, length, refl, sym, ap, ◌∙◌, subst, arith, Bool, true, false, cond, Some, None, is_none, count_by, slice_index, slice_index_or, length-take, range_with_len, cases_Bool, cases_lt, Geometry, View, slots_of, drive, Facts, segment, SegmentFact, Place, AscendFrom, mask, set_count, BootRecord, stripe_of, SectorStands, ArePlaces, places_keep, SameUnit, SameUnits, same_units_keep, bytes_same, counted, Contents, Shelved, WritesOnly, IsMember, Register, IsLaterRecord, IsRegisterOf, OnSlots, drives_of, cut_in, fewer_count, none_past, SegmentsHold, drives_view}
use Rattle.session_spec.specs.Prelude.{Keeps}

-- ---- views

sector_keeps : (v w : View) (places : List Place) (index : ℕ) (sector : List ℕ) → Keeps v w places → SectorStands v places index sector → SectorStands w places index sector
unfolding Keeps
sector_keeps v w places index sector keeps (shards, stands, is) = (shards, keeps (stripe_of index) shards stands, is)

-- of so many numbers each is a bad one, or has a flag, but not both
pub few_bad : (bad : ℕ → Bool) (flags : List Bool) (a : ℕ) → ((i : ℕ) → IsMember flags i → bad (a + i) ≡ false) → count_by bad (range_with_len a (length flags)) + set_count flags ≤ length flags
few_bad bad [] a good = omega arith
few_bad bad (f ∷ fs) a good =
    let rest : count_by bad (range_with_len (a + 1) (length fs)) + set_count fs ≤ length fs = few_bad bad fs (a + 1) (λ i m. subst (λ (k : ℕ). bad k ≡ false) (shifted i) (good (suc i) m)) in
    omega (arith, rest, counted bad a (range_with_len (a + 1) (length fs)), counted (λ (b : Bool). b) f fs, either f (bad a) (λ e. subst (λ (k : ℕ). bad k ≡ false) unshifted (good 0 e)))
  where
    shifted : (i : ℕ) → a + suc i ≡ a + 1 + i
    shifted i = omega arith

    unshifted : a + 0 ≡ a
    unshifted = omega arith

    either : (b c : Bool) → (b ≡ true → c ≡ false) → cond c 1 0 + cond b 1 0 ≤ 1
    either true true to = absurd (cc (to refl))
    either true false to = omega arith
    either false true to = omega arith
    either false false to = omega arith

-- ---- fewer drives

module _ (shelf : Geometry) (old : Shelved) (was now : Register) (fewer : (i : ℕ) → IsMember (drives_of now) i → IsMember (drives_of was) i) where
  less : (i : ℕ) → (drives_view old now (drive i) ≡ drives_view old was (drive i)) ⊎ (drives_view old now (drive i) ≡ None)
  less i = grind (arith, nat_tests, slice_index_or, drives_of)

  not_lost : (i : ℕ) → IsMember (drives_of now) i → is_none (drives_view old now (drive (0 + i))) ≡ false
  not_lost i m = grind (arith, nat_tests, is_none, drive)

  pub hold_fewer : length (drives_of now) ≡ shelf.slots → shelf.slots ≤ set_count (drives_of now) + 2 → (contents : Contents) (facts : Facts)
      → ((id : ℕ) (d : SegmentFact) → segment facts id ≡ Some d → ArePlaces shelf d.places) → SegmentsHold contents old was facts → SegmentsHold contents old now facts
  hold_fewer slots enough contents facts places hold id index d is placed =
      let few = few_bad (λ i. is_none (drives_view old now (drive i))) (drives_of now) 0 not_lost in
      let few_of : count_by (λ i. is_none (drives_view old now (drive i))) (slots_of shelf) + set_count (drives_of now) ≤ shelf.slots =
      subst (λ (n : ℕ). count_by (λ i. is_none (drives_view old now (drive i))) (range_with_len 0 n) + set_count (drives_of now) ≤ n) slots few in
      sector_keeps (drives_view old was) (drives_view old now) d.places index (contents id index)
      (places_keep shelf (drives_view old was) (drives_view old now) less (omega (arith, few_of, enough)) d.places (places id d is))
      (hold id index d is placed)

-- ---- the boot region

-- both slots lie in the first three units
pub off_slots : (members : List Bool) (k i : ℕ) → 196608 ≤ i → OnSlots members (drive k) i → ⊥
off_slots members k i past (inl (inl at)) = omega (arith, past, at.1.1)
off_slots members k i past (inl (inr at)) = omega (arith, past, at.1.1)
off_slots members k i past (inr (inl at)) = omega (arith, past, at.1.1)
off_slots members k i past (inr (inr at)) = omega (arith, past, at.1.1)

-- the bytes behind the first three units of each drive on which the record is in force are the same
pub record AreKept (old new : Shelved) (r : Register) : Type 0 where
  pub size : (i : ℕ) → IsMember (drives_of r) i → length (new.disk (drive i)).bytes ≡ length (old.disk (drive i)).bytes
  pub bytes : (i at : ℕ) → IsMember (drives_of r) i → 196608 ≤ at → slice_index (new.disk (drive i)).bytes at ≡ slice_index (old.disk (drive i)).bytes at

-- where no drive was written
pub unwritten : (old new : Shelved) (r : Register) → ((i : ℕ) → new.disk (drive i) ≡ old.disk (drive i)) → AreKept old new r
unwritten old new r same = grind (arith, nat_tests, slice_index)

-- where after that a record was stored on drives
pub behind_boot : (old mid new : Shelved) (was now : Register) → ((i : ℕ) → mid.disk (drive i) ≡ old.disk (drive i)) → WritesOnly (OnSlots (drives_of was)) mid new → AreKept old new now
behind_boot old mid new was now same writes = grind (arith, nat_tests, drive, off_slots, drives_of, slice_index)

-- a record that was stored is on all but two drives of the shelf, or more
pub drives_left : (shelf : Geometry) (was now : Register) → IsRegisterOf shelf was → IsLaterRecord was.record now.record → now.record.members.drives ≡ now.drives → length now.record.members.drives ≡ 24
    → mask now.record.members.drives < 2 ^ now.record.slots → now.record.slots ≤ set_count now.drives + 2 → (length (drives_of now) ≡ shelf.slots) × (shelf.slots ≤ set_count (drives_of now) + 2)
drives_left shelf was now is later members flags within enough =
    let slots : now.record.slots ≡ shelf.slots = ap (λ (b : BootRecord). b.slots) later.rest ∙ is.lawful.slots in
    let most : was.record.slots ≤ 24 = is.lawful.lawful.slots.1 in
    let same : now.record.slots ≡ was.record.slots = ap (λ (b : BootRecord). b.slots) later.rest in
    let long : length now.drives ≡ 24 = ap (λ (l : List Bool). length l) (sym members) ∙ flags in
    let cut : set_count now.drives ≤ set_count (drives_of now) = fewer_count now.drives (drives_of now) (λ i m. in_shelf i m) in
    (omega (arith, length-take now.record.slots now.drives, long, most, same, slots), omega (arith, cut, enough, slots))
  where
    in_shelf : (i : ℕ) → IsMember now.drives i → IsMember (drives_of now) i
    in_shelf i m = elim (cases_lt i now.record.slots) [
      | inl lt ↦ cut_in now.drives now.record.slots i lt m
      | inr past ↦ absurd (none_past now.record.members.drives now.record.slots i within past (subst (λ (l : List Bool). IsMember l i) (sym members) m))
    ]

module _ (shelf : Geometry) (old new : Shelved) (r : Register) (kept : AreKept old new r) where
  unit_is : (p : Place) → 3 ≤ p.unit → SameUnit (drives_view old r) (drives_view new r) p
  unfolding SameUnit
  unit_is p data_unit n below = elim (cases_Bool (slice_index_or (drives_of r) p.slot false)) [
    | inl m ↦ rw m (ap (λ (b : List ℕ). Some b) (bytes_same (old.disk (drive p.slot)).bytes (new.disk (drive p.slot)).bytes (65536 * p.unit + 4096 * n) 4096 (sym (kept.size p.slot m))
        (λ at low high. sym (kept.bytes p.slot at m (omega (arith, data_unit, low))))))
    | inr none ↦ rw none refl
  ]

  units_are : (ps : List Place) (a : ℕ) → AscendFrom shelf.slots shelf.units a ps → SameUnits (drives_view old r) (drives_view new r) ps
  units_are [] a ascend = tt
  units_are (p ∷ ps) a ascend = (unit_is p ascend.1.data_unit, units_are ps (p.slot + 1) ascend.2)

  pub hold_kept : (contents : Contents) (facts : Facts) → ((id : ℕ) (d : SegmentFact) → segment facts id ≡ Some d → ArePlaces shelf d.places) → SegmentsHold contents old r facts → SegmentsHold contents new r facts
  hold_kept contents facts places hold id index d is placed =
      sector_keeps (drives_view old r) (drives_view new r) d.places index (contents id index)
      (same_units_keep (drives_view old r) (drives_view new r) d.places (units_are d.places 0 (places id d is).ascending))
      (hold id index d is placed)
