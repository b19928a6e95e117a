-- A call that writes a range of the members' boot units: the devices as they were when it began.
use Rattle.boot_region.proofs.Prelude.{nat_tests, ◌≡◌, ◌⊎◌, inl, inr, ℕ, ◌+◌, ◌*◌, ◌/◌, ◌≤◌, ◌<◌, List, [], length, map, slice_index, refl, sym, ◌∙◌, ap, subst, arith, Bool, false, slice_index_or, if◌then◌else◌, ext_get_or, range_with_len, cases_Bool, cases_lt, get_or_past, length-map-range_with_len, get_or-map-range_with_len, Device, Drive, Nv, BOOT_UNITS, UNIT_BYTES, drive, nvram, Span, Shelved, Stop, MayStop, MayLeave, IsShelf, IsIn, IsInSome, LeavesBut, IsMember, OnMembers, OnlyBoot}

pub in_or_out : (at n k : ℕ) → IsIn (record { start = at; size = n }) k ⊎ (IsIn (record { start = at; size = n }) k → ⊥)
in_or_out at n k = grind (arith, nat_tests)

pick : {P : Type 0} → ℕ → ℕ → P ⊎ (P → ⊥) → ℕ
pick a b (inl is) = a
pick a b (inr out) = b

picks_in : {P : Type 0} (a b : ℕ) (w : P ⊎ (P → ⊥)) → P → pick a b w ≡ a
unfolding pick
picks_in a b (inl is) p = refl
picks_in a b (inr out) p = absurd (out p)

picks_out : {P : Type 0} (a b : ℕ) (w : P ⊎ (P → ⊥)) → (P → ⊥) → pick a b w ≡ b
unfolding pick
picks_out a b (inl is) none = absurd (none is)
picks_out a b (inr out) none = refl

byte_at : ℕ → ℕ → List ℕ → List ℕ → ℕ → ℕ
byte_at at n within outside k = pick (slice_index within k) (slice_index outside k) (in_or_out at n k)

-- the bytes of the one list within the range, and of the other outside it
pub spliced : ℕ → ℕ → List ℕ → List ℕ → List ℕ
spliced at n within outside = map (byte_at at n within outside) (range_with_len 0 (length outside))

spliced_size : (at n : ℕ) (within outside : List ℕ) → length (spliced at n within outside) ≡ length outside
unfolding spliced
spliced_size at n within outside = length-map-range_with_len (byte_at at n within outside) 0 (length outside)

spliced_below : (at n : ℕ) (within outside : List ℕ) (k : ℕ) → k < length outside → slice_index (spliced at n within outside) k ≡ byte_at at n within outside k
unfolding spliced
spliced_below at n within outside k lt = get_or-map-range_with_len (byte_at at n within outside) 0 (length outside) k k 0 lt (omega arith)

spliced_past : (at n : ℕ) (within outside : List ℕ) (k : ℕ) → length outside ≤ k → slice_index (spliced at n within outside) k ≡ 0
spliced_past at n within outside k ge = get_or_past (spliced at n within outside) k 0 (omega (arith, spliced_size at n within outside, ge))

spliced_in : (at n : ℕ) (within outside : List ℕ) (k : ℕ) → length within ≡ length outside → IsIn (record { start = at; size = n }) k → slice_index (spliced at n within outside) k ≡ slice_index within k
unfolding byte_at
spliced_in at n within outside k sizes is = grind (arith, nat_tests, cases_lt, spliced_below, picks_in, in_or_out, spliced_past, get_or_past)

spliced_out : (at n : ℕ) (within outside : List ℕ) (k : ℕ) → (IsIn (record { start = at; size = n }) k → ⊥) → slice_index (spliced at n within outside) k ≡ slice_index outside k
unfolding byte_at
spliced_out at n within outside k out = grind (arith, nat_tests, cases_lt, spliced_below, picks_out, in_or_out, spliced_past, get_or_past)

-- members as a read gave them then within the range, and all else as the stop leaves it
pub began_at : List Bool → Shelved → ℕ → ℕ → Stop → Device → List ℕ
began_at members shelf at n stop (Drive d) = if slice_index_or members d.0 false then spliced at n (shelf.disk (Drive d)).bytes (stop.image (Drive d)) else stop.image (Drive d)
began_at members shelf at n stop (Nv v) = stop.image (Nv v)

abbrev pub began : List Bool → Shelved → ℕ → ℕ → Stop → Stop
began members shelf at n stop = record { image = began_at members shelf at n stop; faults = stop.faults; write_faults = stop.write_faults; output = shelf.output; taken = shelf.taken }

module _ (members : List Bool) (shelf : Shelved) (at n : ℕ) (stop : Stop) (left : LeavesBut (OnMembers members at n) shelf stop) where
  abbrev member : ℕ → Bool
  member i = slice_index_or members i false

  on_member : (i : ℕ) → IsMember members i → began_at members shelf at n stop (drive i) ≡ spliced at n (shelf.disk (drive i)).bytes (stop.image (drive i))
  unfolding began_at
  on_member i m = rw m refl

  -- what isn't a member's stays
  pub as_left : (i : ℕ) → member i ≡ false → began_at members shelf at n stop (drive i) ≡ stop.image (drive i)
  unfolding began_at
  as_left i m = rw m refl

  pub on_nvram : (v : ℕ) → began_at members shelf at n stop (nvram v) ≡ stop.image (nvram v)
  unfolding began_at
  on_nvram v = refl

  as_long : (i : ℕ) → length (stop.image (drive i)) ≡ length (shelf.disk (drive i)).bytes
  as_long i = (left.bytes (drive i)).size

  pub same_size : (i : ℕ) → length (stop.image (drive i)) ≡ length (began_at members shelf at n stop (drive i))
  same_size i = grind (arith, nat_tests, on_member, spliced_size, drive, as_left)

  -- within the range, as it was read
  pub within : (i k : ℕ) → IsMember members i → IsIn (record { start = at; size = n }) k → slice_index (began_at members shelf at n stop (drive i)) k ≡ slice_index (shelf.disk (drive i)).bytes k
  within i k m is = ap (λ (l : List ℕ). slice_index l k) (on_member i m) ∙ spliced_in at n (shelf.disk (drive i)).bytes (stop.image (drive i)) k (sym (as_long i)) is

  -- outside it, as the stop leaves it
  pub outside : (i k : ℕ) → (IsIn (record { start = at; size = n }) k → ⊥) → slice_index (stop.image (drive i)) k ≡ slice_index (began_at members shelf at n stop (drive i)) k
  outside i k out = grind (arith, nat_tests, slice_index, on_member, spliced_out, drive, as_left)

  not_member : (i : ℕ) → member i ≡ false → IsMember members i → ⊥
  not_member i isn't m = absurd (cc (isn't, m))

  clean_at : (i k : ℕ) → (IsInSome (shelf.disk (drive i)).dirty k → ⊥) → slice_index (began_at members shelf at n stop (drive i)) k ≡ slice_index (shelf.disk (drive i)).bytes k
  clean_at i k clean = grind (arith, nat_tests, in_or_out, within, outside, drive, slice_index, as_left, not_member)

  -- a clean device, as it was read
  pub as_read_then : (i : ℕ) → (shelf.disk (drive i)).dirty ≡ [] → began_at members shelf at n stop (drive i) ≡ (shelf.disk (drive i)).bytes
  as_read_then i clean =
      ext_get_or 0 (began_at members shelf at n stop (drive i)) (shelf.disk (drive i)).bytes (sym (same_size i) ∙ as_long i)
      (λ k lt. clean_at i k (λ is. subst (λ (l : List Span). IsInSome l k) clean is))

  is_byte : IsShelf shelf → shelf.honest → (i k : ℕ) → slice_index (began_at members shelf at n stop (drive i)) k < 256
  is_byte is h i k = elim (cases_Bool (member i)) [
    | inl m ↦ elim (in_or_out at n k) [
      | inl inside ↦ omega (arith, within i k m inside, is.bytes h (drive i) k)
      | inr out ↦ omega (arith, outside i k out, (left.bytes (drive i)).is_byte k)
    ]
    | inr m ↦ omega (arith, ap (λ (l : List ℕ). slice_index l k) (as_left i m), (left.bytes (drive i)).is_byte k)
  ]

  may : IsShelf shelf → shelf.honest → (d : Device) → MayLeave (shelf.disk d) (began_at members shelf at n stop d)
  unfolding began_at
  may is h (Drive d) = let may_drive : MayLeave (shelf.disk (drive d.0)) (began_at members shelf at n stop (drive d.0)) = record { size = sym (same_size d.0) ∙ as_long d.0; is_byte = is_byte is h d.0; clean = clean_at d.0 } in may_drive
  may is h (Nv v) = let b = left.bytes (Nv v) in record { size = b.size; is_byte = b.is_byte; clean = λ k out. b.same k out (λ w. w) }

  -- a stop when the call began might have left them
  pub may_begin : IsShelf shelf → shelf.honest → MayStop shelf (began members shelf at n stop)
  may_begin is h = record { counts = record { faults = left.counts.faults; write_faults = left.counts.write_faults }; output = refl; taken = refl; device = may is h }

  in_boot : (k : ℕ) → at + n ≤ BOOT_UNITS * UNIT_BYTES → IsIn (record { start = at; size = n }) k → k / UNIT_BYTES < BOOT_UNITS
  in_boot k fits is = omega (arith, fits, is.1)

  differs_at : at + n ≤ BOOT_UNITS * UNIT_BYTES → (i k : ℕ) → (slice_index (stop.image (drive i)) k ≡ slice_index (began_at members shelf at n stop (drive i)) k) ⊎ (k / UNIT_BYTES < BOOT_UNITS)
  differs_at fits i k = grind (arith, nat_tests, in_or_out, in_boot, outside)

  pub differs : at + n ≤ BOOT_UNITS * UNIT_BYTES → OnlyBoot (began members shelf at n stop).image stop.image
  differs fits = record { nvram = λ v. sym (on_nvram v); size = same_size; drive = differs_at fits }
