-- What the devices held before the writes, but for what a stop leaves on drives that aren't the record's.
use Rattle.array_core.proofs.Prelude.{nat_tests, ◌≡◌, ◌⊎◌, inl, inr, ℕ, ◌/◌, ◌<◌, List, [], length, refl, sym, subst, arith, Bool, false, slice_index, slice_index_or, if◌then◌else◌, cases_Bool, Device, Image, drive, Facts, BootRecord, IsFree, is_used, DiffersOnlyIn, all_facts, Shelved, Stop, MayLeave, MayStop, IsInSome, Span, MayLeaveBut, IsMember, Register, drives_of, Content, OnFree}
use Rattle.pur_base.specs.declared.device.Device.TheVariants as dev

-- a unit is free or it isn't
free_or_not : (boot : BootRecord) (facts : Facts) (slot unit : ℕ) → IsFree boot facts slot unit ⊎ (IsFree boot facts slot unit → ⊥)
free_or_not boot facts slot unit = grind (arith, nat_tests, is_used)

-- the record's drives as they were, all else of the image
of_record : List Bool → Shelved → Image → Image
of_record members shelf image (dev.Drive d) = if slice_index_or members d.0 false then (shelf.disk (dev.Drive d)).bytes else image (dev.Drive d)
of_record members shelf image (dev.Nv n) = image (dev.Nv n)

module _ (old : Shelved) (bytes : (d : Device) (i : ℕ) → slice_index (old.disk d).bytes i < 256) (r : Register) (held : Content)
    (image : Image) (left : (d : Device) → MayLeaveBut (OnFree r held d) (old.disk d) (image d)) where
  pub at_before : Stop
  at_before = record { image = of_record (drives_of r) old image; faults = λ d. (old.disk d).faults; write_faults = λ d. (old.disk d).write_faults; output = old.output; taken = old.taken }

  pub before_stops : MayStop old at_before
  unfolding at_before of_record
  before_stops = record { device = each; counts = record { faults = λ d. omega arith; write_faults = λ d. omega arith }; output = refl; taken = refl }
    where
      each : (d : Device) → MayLeave (old.disk d) (of_record (drives_of r) old image d)
      each (dev.Drive d) = elim (cases_Bool (slice_index_or (drives_of r) d.0 false)) [
        | inl m ↦ subst (λ (b : Bool). MayLeave (old.disk (dev.Drive d)) (if b then (old.disk (dev.Drive d)).bytes else image (dev.Drive d))) (sym m)
            (record { size = refl; is_byte = bytes (dev.Drive d); clean = λ i not. refl })
        | inr none ↦ subst (λ (b : Bool). MayLeave (old.disk (dev.Drive d)) (if b then (old.disk (dev.Drive d)).bytes else image (dev.Drive d))) (sym none)
            (record { size = (left (dev.Drive d)).size; is_byte = (left (dev.Drive d)).is_byte; clean = λ i not. (left (dev.Drive d)).same i not (λ w. absurd (cc (w.0, none))) })
      ]
      each (dev.Nv n) = record { size = (left (dev.Nv n)).size; is_byte = (left (dev.Nv n)).is_byte; clean = λ i not. (left (dev.Nv n)).same i not (λ w. w) }

  -- a drive of the record is as it was
  pub as_before : (i : ℕ) → IsMember (drives_of r) i → at_before.image (drive i) ≡ (old.disk (drive i)).bytes
  unfolding at_before of_record
  as_before i m = subst (λ (b : Bool). (if b then (old.disk (drive i)).bytes else image (drive i)) ≡ (old.disk (drive i)).bytes) (sym m) refl

  -- the image differs only in free units, where the record's drives were clean
  pub differs : ((i : ℕ) → IsMember (drives_of r) i → (old.disk (drive i)).dirty ≡ []) → DiffersOnlyIn (λ i unit. IsFree r.record (all_facts held.patches) i unit) at_before.image image
  unfolding at_before of_record
  differs clean = record {
    nvram = λ i. refl;
    size = λ i. elim (cases_Bool (slice_index_or (drives_of r) i false)) [
      | inl m ↦ subst (λ (b : Bool). length (image (drive i)) ≡ length (if b then (old.disk (drive i)).bytes else image (drive i))) (sym m) (left (drive i)).size
      | inr none ↦ subst (λ (b : Bool). length (image (drive i)) ≡ length (if b then (old.disk (drive i)).bytes else image (drive i))) (sym none) refl
    ];
    drive = λ d i. elim (cases_Bool (slice_index_or (drives_of r) d false)) [
      | inl m ↦ subst (λ (b : Bool). (slice_index (image (drive d)) i ≡ slice_index (if b then (old.disk (drive d)).bytes else image (drive d)) i) ⊎ IsFree r.record (all_facts held.patches) d (i / 65536)) (sym m)
          (elim (free_or_not r.record (all_facts held.patches) d (i / 65536)) [
            | inl free ↦ inr free
            | inr not ↦ inl ((left (drive d)).same i (λ dirty. subst (λ (l : List Span). IsInSome l i) (clean d m) dirty) (λ w. not w.1))
          ])
      | inr none ↦ subst (λ (b : Bool). (slice_index (image (drive d)) i ≡ slice_index (if b then (old.disk (drive d)).bytes else image (drive d)) i) ⊎ IsFree r.record (all_facts held.patches) d (i / 65536)) (sym none) (inl refl)
    ];
  }
