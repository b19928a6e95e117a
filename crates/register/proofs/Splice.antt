-- A stop that leaves the boot units of the drives as reads give them, and their other units as another stop leaves them.
use Rattle.register.proofs.Prelude.{nat_tests, ◌≡◌, ◌⊎◌, inl, inr, ℕ, zero, suc, ◌/◌, ◌<◌, ◌≤◌, List, [], ◌∷◌, length, refl, sym, ◌∙◌, subst, arith, Bool, true, false, slice_index, slice_index_or, if◌then◌else◌, cases_Bool, cases_lt, Device, Image, drive, nvram, BootSlot, A, B, body_in, bytes_same, Shelved, Disk, Stop, MayLeave, MayStop, IsInSome, LeavesBut, OnSlot, OnlyBoot}
use Rattle.pur_base.specs.declared.device.Device.TheVariants as dev

-- so many bytes of the first list, and the others of the second
unfoldable pub mix : ℕ → List ℕ → List ℕ → List ℕ
mix zero xs ys = ys
mix (suc n) [] ys = []
mix (suc n) (x ∷ xs) [] = []
mix (suc n) (x ∷ xs) (y ∷ ys) = x ∷ mix n xs ys

pub mix_length : (n : ℕ) (xs ys : List ℕ) → length xs ≡ length ys → length (mix n xs ys) ≡ length xs
unfolding mix
mix_length zero xs ys e = sym e
mix_length (suc n) [] ys e = refl
mix_length (suc n) (x ∷ xs) [] e = absurd (omega (arith, e))
mix_length (suc n) (x ∷ xs) (y ∷ ys) e = let rest = mix_length n xs ys (omega (arith, e)) in omega (arith, rest)

mix_low : (n i : ℕ) (xs ys : List ℕ) → length xs ≡ length ys → i < n → slice_index (mix n xs ys) i ≡ slice_index xs i
unfolding mix
mix_low zero i xs ys e lt = absurd (omega (arith, lt))
mix_low (suc n) i [] ys e lt = refl
mix_low (suc n) i (x ∷ xs) [] e lt = absurd (omega (arith, e))
mix_low (suc n) zero (x ∷ xs) (y ∷ ys) e lt = refl
mix_low (suc n) (suc i) (x ∷ xs) (y ∷ ys) e lt = mix_low n i xs ys (omega (arith, e)) (omega (arith, lt))

mix_high : (n i : ℕ) (xs ys : List ℕ) → length xs ≡ length ys → n ≤ i → slice_index (mix n xs ys) i ≡ slice_index ys i
unfolding mix
mix_high zero i xs ys e le = refl
mix_high (suc n) i [] [] e le = refl
mix_high (suc n) i [] (y ∷ ys) e le = absurd (omega (arith, e))
mix_high (suc n) i (x ∷ xs) [] e le = absurd (omega (arith, e))
mix_high (suc n) zero (x ∷ xs) (y ∷ ys) e le = absurd (omega (arith, le))
mix_high (suc n) (suc i) (x ∷ xs) (y ∷ ys) e le = mix_high n i xs ys (omega (arith, e)) (omega (arith, le))

-- the boot units as reads give them, the others of these bytes
unfoldable pub spliced : Disk → List ℕ → List ℕ
spliced disk bytes = mix 196608 disk.bytes bytes

-- where the other units may be so, the whole may
pub splice_may : (disk : Disk) (bytes : List ℕ) → length disk.bytes ≡ length bytes → ((i : ℕ) → slice_index disk.bytes i < 256) → ((i : ℕ) → slice_index bytes i < 256)
    → ((i : ℕ) → 196608 ≤ i → (IsInSome disk.dirty i → ⊥) → slice_index bytes i ≡ slice_index disk.bytes i) → MayLeave disk (spliced disk bytes)
unfolding spliced
splice_may disk bytes long own its same = record {
  size = mix_length 196608 disk.bytes bytes long;
  is_byte = λ i. elim (cases_lt i 196608) [
    | inl lt ↦ subst (λ (b : ℕ). b < 256) (sym (mix_low 196608 i disk.bytes bytes long lt)) (own i)
    | inr ge ↦ subst (λ (b : ℕ). b < 256) (sym (mix_high 196608 i disk.bytes bytes long ge)) (its i)
  ];
  clean = λ i not. elim (cases_lt i 196608) [
    | inl lt ↦ mix_low 196608 i disk.bytes bytes long lt
    | inr ge ↦ mix_high 196608 i disk.bytes bytes long ge ∙ same i ge not
  ];
}

pub splice_body : (disk : Disk) (bytes : List ℕ) (slot : BootSlot) → length disk.bytes ≡ length bytes → body_in slot (spliced disk bytes) ≡ body_in slot disk.bytes
unfolding spliced
splice_body disk bytes A long = bytes_same (mix 196608 disk.bytes bytes) disk.bytes 65536 65536 (mix_length 196608 disk.bytes bytes long) (λ i low high. mix_low 196608 i disk.bytes bytes long (omega (arith, high)))
splice_body disk bytes B long = bytes_same (mix 196608 disk.bytes bytes) disk.bytes 131072 65536 (mix_length 196608 disk.bytes bytes long) (λ i low high. mix_low 196608 i disk.bytes bytes long (omega (arith, high)))

pub splice_only : (disk : Disk) (bytes : List ℕ) (i : ℕ) → length disk.bytes ≡ length bytes → (slice_index bytes i ≡ slice_index (spliced disk bytes) i) ⊎ (i / 65536 < 3)
unfolding spliced
splice_only disk bytes i long = elim (cases_lt i 196608) [
  | inl lt ↦ inr (omega (arith, lt))
  | inr ge ↦ inl (sym (mix_high 196608 i disk.bytes bytes long ge))
]

-- ---- of all drives

-- the boot units of each drive as reads give them, all else of the image
of_drives : Shelved → Image → Image
of_drives shelf image (dev.Drive d) = spliced (shelf.disk (dev.Drive d)) (image (dev.Drive d))
of_drives shelf image (dev.Nv n) = image (dev.Nv n)

module _ (shelf : Shelved) (bytes : (d : Device) (i : ℕ) → slice_index (shelf.disk d).bytes i < 256) (image : Image)
    (long : (i : ℕ) → length (shelf.disk (drive i)).bytes ≡ length (image (drive i))) (are_bytes : (d : Device) (i : ℕ) → slice_index (image d) i < 256)
    (same : (d i : ℕ) → 196608 ≤ i → (IsInSome (shelf.disk (drive d)).dirty i → ⊥) → slice_index (image (drive d)) i ≡ slice_index (shelf.disk (drive d)).bytes i)
    (log : (n : ℕ) → MayLeave (shelf.disk (nvram n)) (image (nvram n))) where
  pub at_splice : Stop
  at_splice = record { image = of_drives shelf image; faults = λ d. (shelf.disk d).faults; write_faults = λ d. (shelf.disk d).write_faults; output = shelf.output; taken = shelf.taken }

  pub splice_stops : MayStop shelf at_splice
  unfolding at_splice of_drives
  splice_stops = record { device = each; counts = record { faults = λ d. omega arith; write_faults = λ d. omega arith }; output = refl; taken = refl }
    where
      each : (d : Device) → MayLeave (shelf.disk d) (of_drives shelf image d)
      each (dev.Drive d) = splice_may (shelf.disk (dev.Drive d)) (image (dev.Drive d)) (long d.0) (bytes (dev.Drive d)) (are_bytes (dev.Drive d)) (same d.0)
      each (dev.Nv n) = log n.0

  pub splice_bodies : (slot : BootSlot) (i : ℕ) → body_in slot (at_splice.image (drive i)) ≡ body_in slot (shelf.disk (drive i)).bytes
  unfolding at_splice of_drives
  splice_bodies slot i = splice_body (shelf.disk (drive i)) (image (drive i)) slot (long i)

  pub splice_boot : OnlyBoot at_splice.image image
  unfolding at_splice of_drives spliced
  splice_boot = record {
    nvram = λ i. refl;
    size = λ i. sym (long i) ∙ sym (mix_length 196608 (shelf.disk (drive i)).bytes (image (drive i)) (long i));
    drive = λ d i. splice_only (shelf.disk (drive d)) (image (drive d)) i (long d);
  }

-- ---- of the members alone, while a slot of theirs is written

-- the boot units of each member as reads give them, all else of the image
of_members_boot : List Bool → Shelved → Image → Image
of_members_boot members shelf image (dev.Drive d) = if slice_index_or members d.0 false then spliced (shelf.disk (dev.Drive d)) (image (dev.Drive d)) else image (dev.Drive d)
of_members_boot members shelf image (dev.Nv n) = image (dev.Nv n)

-- the slots lie in the boot units
pub in_boot : (members : List Bool) (s : BootSlot) (d i : ℕ) → 196608 ≤ i → OnSlot members s (drive d) i → ⊥
in_boot members A d i le (inl w) = omega (arith, le, w.1.0, w.1.1)
in_boot members A d i le (inr w) = omega (arith, le, w.1.0, w.1.1)
in_boot members B d i le (inl w) = omega (arith, le, w.1.0, w.1.1)
in_boot members B d i le (inr w) = omega (arith, le, w.1.0, w.1.1)

not_of : (members : List Bool) (s : BootSlot) (d i : ℕ) → slice_index_or members d false ≡ false → OnSlot members s (drive d) i → ⊥
not_of members s d i no_member (inl w) = absurd (cc (w.0, no_member))
not_of members s d i no_member (inr w) = absurd (cc (w.0, no_member))

module _ (shelf : Shelved) (bytes : (d : Device) (i : ℕ) → slice_index (shelf.disk d).bytes i < 256) (members : List Bool) (slot : BootSlot) (stop : Stop) (left : LeavesBut (OnSlot members slot) shelf stop)
    (log : (n : ℕ) → MayLeave (shelf.disk (nvram n)) (stop.image (nvram n))) where
  pub at_members : Stop
  at_members = record { image = of_members_boot members shelf stop.image; faults = λ d. (shelf.disk d).faults; write_faults = λ d. (shelf.disk d).write_faults; output = shelf.output; taken = shelf.taken }

  pub members_stop : MayStop shelf at_members
  unfolding at_members of_members_boot
  members_stop = record { device = each; counts = record { faults = λ d. omega arith; write_faults = λ d. omega arith }; output = refl; taken = refl }
    where
      each : (d : Device) → MayLeave (shelf.disk d) (of_members_boot members shelf stop.image d)
      each (dev.Drive d) = elim (cases_Bool (slice_index_or members d.0 false)) [
        | inl m ↦ subst (λ (b : Bool). MayLeave (shelf.disk (dev.Drive d)) (if b then spliced (shelf.disk (dev.Drive d)) (stop.image (dev.Drive d)) else stop.image (dev.Drive d))) (sym m)
            (splice_may (shelf.disk (dev.Drive d)) (stop.image (dev.Drive d)) (sym (left.bytes (dev.Drive d)).size) (bytes (dev.Drive d)) (left.bytes (dev.Drive d)).is_byte
            (λ i le not. (left.bytes (dev.Drive d)).same i not (in_boot members slot d.0 i le)))
        | inr no_member ↦ subst (λ (b : Bool). MayLeave (shelf.disk (dev.Drive d)) (if b then spliced (shelf.disk (dev.Drive d)) (stop.image (dev.Drive d)) else stop.image (dev.Drive d))) (sym no_member)
            (record { size = (left.bytes (dev.Drive d)).size; is_byte = (left.bytes (dev.Drive d)).is_byte; clean = λ i not. (left.bytes (dev.Drive d)).same i not (not_of members slot d.0 i no_member) })
      ]
      each (dev.Nv n) = log n.0

  -- a member has its body as it was read, and another drive shows what it does at the stop
  pub members_bodies : (s : BootSlot) (i : ℕ) → slice_index_or members i false ≡ true → body_in s (at_members.image (drive i)) ≡ body_in s (shelf.disk (drive i)).bytes
  unfolding at_members of_members_boot
  members_bodies s i m = subst (λ (b : Bool). body_in s (if b then spliced (shelf.disk (drive i)) (stop.image (drive i)) else stop.image (drive i)) ≡ body_in s (shelf.disk (drive i)).bytes) (sym m)
      (splice_body (shelf.disk (drive i)) (stop.image (drive i)) s (sym (left.bytes (drive i)).size))

  pub others_bodies : (s : BootSlot) (i : ℕ) → slice_index_or members i false ≡ false → body_in s (at_members.image (drive i)) ≡ body_in s (stop.image (drive i))
  unfolding at_members of_members_boot
  others_bodies s i no_member = subst (λ (b : Bool). body_in s (if b then spliced (shelf.disk (drive i)) (stop.image (drive i)) else stop.image (drive i)) ≡ body_in s (stop.image (drive i))) (sym no_member) refl

  pub members_boot : OnlyBoot at_members.image stop.image
  unfolding at_members of_members_boot spliced
  members_boot = record {
    nvram = λ i. refl;
    size = λ i. elim (cases_Bool (slice_index_or members i false)) [
      | inl m ↦ subst (λ (b : Bool). length (stop.image (drive i)) ≡ length (if b then mix 196608 (shelf.disk (drive i)).bytes (stop.image (drive i)) else stop.image (drive i))) (sym m)
          ((left.bytes (drive i)).size ∙ sym (mix_length 196608 (shelf.disk (drive i)).bytes (stop.image (drive i)) (sym (left.bytes (drive i)).size)))
      | inr no_member ↦ subst (λ (b : Bool). length (stop.image (drive i)) ≡ length (if b then mix 196608 (shelf.disk (drive i)).bytes (stop.image (drive i)) else stop.image (drive i))) (sym no_member) refl
    ];
    drive = λ d i. elim (cases_Bool (slice_index_or members d false)) [
      | inl m ↦ subst (λ (b : Bool). (slice_index (stop.image (drive d)) i ≡ slice_index (if b then mix 196608 (shelf.disk (drive d)).bytes (stop.image (drive d)) else stop.image (drive d)) i) ⊎ (i / 65536 < 3)) (sym m)
          (splice_only (shelf.disk (drive d)) (stop.image (drive d)) i (sym (left.bytes (drive d)).size))
      | inr no_member ↦ subst (λ (b : Bool). (slice_index (stop.image (drive d)) i ≡ slice_index (if b then mix 196608 (shelf.disk (drive d)).bytes (stop.image (drive d)) else stop.image (drive d)) i) ⊎ (i / 65536 < 3)) (sym no_member) (inl refl)
    ];
  }

-- one image after another
pub only_boot_twice : (a b c : Image) → OnlyBoot a b → OnlyBoot b c → OnlyBoot a c
only_boot_twice a b c first second = grind (arith, nat_tests, nvram, drive)
