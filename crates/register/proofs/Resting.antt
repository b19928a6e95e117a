-- A record that stands on each drive that is sound, over an older one: it alone is in force, and the devices stand for the array of the log.
use Rattle.register.proofs.Prelude.{nat_tests, ◌≡◌, ◌≢◌, ◌⊎◌, inl, inr, ℕ, ◌+◌, ◌*◌, ◌-◌, ◌^◌, ◌≤◌, ◌<◌, List, [], length, take, refl, sym, ◌∙◌, ap, subst, arith, Bool, true, false, Some, Contains, count_by, take_all, append-nil, range_with_len, bytes_eq, same_text, cases_Bool, Conditions, Sound, LeftOut, IsBearable, IsOn, is_sound, drive, nvram, Device, Array, Command, after_all, BootRecord, spelling, BootSlot, other_slot, body_in, shown_by, slot_of, generation_in, names, Yields, ShowsIn, Stands, MayBeGiven, MayAppear, IsReadInto, IsHeld, is_sound_vote, LogLies, NamesSound, NamesNoneLeftOut, record_is_read, one_is_effective, held_is_given, twice_other, spells_one, Shelved, Stop, MayStop, IsShelf, geometry_of, as_read, IsMember, Shows, IsOlder, IsInForceOn, shown_body, Register, drives_of, next_slot, Content, StandsInLog, MayStore, array_of, in_cut}
use Rattle.pur_base.specs.declared.device.Device.TheVariants as dev
use Rattle.array_spec.proofs.Held.{held_stands}
use Rattle.boot_region.proofs.Composing.{as_it_is, is_sound_is, votes_not}
use Rattle.nvram_log.specs.Members as nv
use Rattle.boot_region.proofs.StillGiven.{yields_or}
use Rattle.boot_region.proofs.Stored.{count_none}

module _ (shelf : Shelved) (is : IsShelf shelf) (r : Register) (nvrams : List Bool) (held : Content) (arrays : List Array) (one_of : Contains arrays (array_of held))
    (logged : StandsInLog shelf r nvrams held) (nvrams_are : r.record.members.nvrams ≡ nvrams) (not_spent : r.record.generation < 2 ^ 48 - 8) (some : nv.IsSome nvrams)
    (shown : (i : ℕ) → IsMember (drives_of r) i → Shows shelf (slot_of r.record.generation) (spelling r.record) i)
    (older : (i : ℕ) → IsMember (drives_of r) i → IsOlder shelf (next_slot r.record) (spelling r.record) i)
    (known : Conditions) (bearable : IsBearable (geometry_of shelf) known)
    (sound : (i : ℕ) → i < shelf.drives → known (drive i) ≡ Sound → IsMember (drives_of r) i)
    (nv_sound : (n : ℕ) → n < 2 → known (nvram n) ≡ Sound → nv.IsMember nvrams n) (left : (n : ℕ) → known (nvram n) ≡ LeftOut → nv.IsMember nvrams n → ⊥)
    (no_drive : (i : ℕ) → known (drive i) ≡ LeftOut → names r.record (drive i) ≡ false) where
  nvram_named : (n : ℕ) → names r.record (nvram n) ≡ true → nv.IsMember nvrams n
  nvram_named n e = subst (λ (l : List Bool). nv.IsMember l n) nvrams_are e

  named_nvram : (n : ℕ) → nv.IsMember nvrams n → names r.record (nvram n) ≡ true
  named_nvram n m = subst (λ (l : List Bool). nv.IsMember l n) (sym nvrams_are) m

  some_arrays : arrays ≢ []
  some_arrays e = grind (arith, nat_tests)

  one : (n : ℕ) × (n < 2) × nv.IsMember nvrams n
  one = elim some [ inl m ↦ (0, omega arith, m) | inr m ↦ (1, omega arith, m) ]

  module _ (stop : Stop) (may : MayStop shelf stop) where
    drive_is : (i : ℕ) → IsMember (drives_of r) i → stop.image (drive i) ≡ (shelf.disk (drive i)).bytes
    drive_is i m = as_read (shelf.disk (drive i)) (stop.image (drive i)) (shown i m).clean (may.device (drive i))

    nvram_is : (n : ℕ) → n < 2 → nv.IsMember nvrams n → stop.image (nvram n) ≡ (shelf.disk (nvram n)).bytes
    nvram_is n lt m = as_read (shelf.disk (nvram n)) (stop.image (nvram n)) (logged.holds.clean n lt m) (may.device (nvram n))

    shows : (i : ℕ) → i < shelf.drives → known (drive i) ≡ Sound → shown_by (slot_of r.record.generation) (stop.image (drive i)) ≡ Some (spelling r.record)
    shows i lt s = let m = sound i lt s in ap (shown_by (slot_of r.record.generation)) (drive_is i m) ∙ (shown i m).shown

    -- what a drive shows in the other slot is older
    no_vote : (other : List ℕ) → (Yields (slot_of r.record.generation) (generation_in other) (generation_in (spelling r.record)) → ⊥)
        → (i : ℕ) → i < shelf.drives → is_sound_vote stop.image known (next_slot r.record) other i ≡ false
    no_vote other newer i lt = elim (cases_Bool (is_sound (known (drive i)))) [
      | inr unsound ↦ rw unsound refl
      | inl s ↦
          let m = sound i lt (is_sound_is (known (drive i)) s) in
          rw s (votes_not (shown_by (next_slot r.record) (stop.image (drive i))) other (λ x e. differs x m
          (sym (shown_body (next_slot r.record) (stop.image (drive i)) x e) ∙ ap (body_in (next_slot r.record)) (drive_is i m))))
    ]
      where
        differs : (x : List ℕ) → IsMember (drives_of r) i → x ≡ body_in (next_slot r.record) (shelf.disk (drive i)).bytes → bytes_eq x other ≡ false
        differs x m e = elim (cases_Bool (bytes_eq x other)) [
          | inr no_same ↦ no_same
          | inl same ↦
              let is_x : Yields (slot_of r.record.generation) (generation_in x) (generation_in (spelling r.record)) =
              subst (λ (t : BootSlot). Yields t (generation_in x) (generation_in (spelling r.record))) (twice_other (slot_of r.record.generation))
              (subst (λ (l : List ℕ). Yields (other_slot (next_slot r.record)) (generation_in l) (generation_in (spelling r.record))) (sym e) (older i m)) in
              absurd (newer (subst (λ (l : List ℕ). Yields (slot_of r.record.generation) (generation_in l) (generation_in (spelling r.record))) (same_text x other (sym same)) is_x))
        ]

    few : (other : List ℕ) → Yields (slot_of r.record.generation) (generation_in other) (generation_in (spelling r.record))
        ⊎ (2 * (count_by (is_sound_vote stop.image known (next_slot r.record) other) (range_with_len 0 shelf.drives) + 2) ≤ shelf.drives)
    few other = elim (yields_or (slot_of r.record.generation) (generation_in other) (generation_in (spelling r.record))) [
      | inl yields ↦ inl yields
      | inr newer ↦
          let none = count_none (is_sound_vote stop.image known (next_slot r.record) other) 0 shelf.drives (λ i low lt. no_vote other newer i (omega (arith, lt))) in
          inr (omega (arith, none, is.drives.0))
    ]

    is_held : IsHeld (geometry_of shelf) stop.image known (slot_of r.record.generation) (spelling r.record)
    is_held = record { shown = shows; few = few }

    pub given : MayBeGiven (geometry_of shelf) stop.image known (slot_of r.record.generation) r.record
    given =
        let a : MayAppear (geometry_of shelf) stop.image known known (λ k. Some (stop.image k)) = record { within = as_it_is known; bearable = bearable; shown = λ k s. refl } in
        record {
          more = known;
          view = λ k. Some (stop.image k);
          appears = a;
          lawful = logged.is_of.lawful;
          effective = held_is_given (geometry_of shelf) stop.image known known (λ k. Some (stop.image k)) (slot_of r.record.generation) (spelling r.record) is.drives.0 is_held a;
        }

    unnamed : (n : ℕ) → known (nvram n) ≡ LeftOut → names r.record (nvram n) ≡ false
    unnamed n out = elim (cases_Bool (names r.record (nvram n))) [
      | inl named ↦ absurd (left n out (nvram_named n named))
      | inr not ↦ not
    ]

    named : (d : Device) → IsOn (geometry_of shelf) d → known d ≡ Sound → names r.record d ≡ true
    named (dev.Drive d) on s = logged.is_of.named d.0 (in_cut r.drives r.record.slots d.0 (sound d.0 on s))
    named (dev.Nv n) on s = named_nvram n.0 (nv_sound n.0 on s)

    lies : LogLies stop.image known r.record held.log held.log
    lies = record {
      front = ([], sym (append-nil held.log));
      room = (logged.holds.log one.0 one.1 one.2).room;
      lawful = λ i c at. ((logged.holds.log one.0 one.1 one.2).between.all i c at).spelled.lawful;
      all = λ n i c lt s at.
          let m = nv_sound n lt s in
          subst (λ (b : List ℕ). ShowsIn b r.record.flushed i c) (sym (nvram_is n lt m)) ((logged.holds.log n lt m).between.all i c at);
      no_other = λ n i c lt named x.
          let m = nvram_named n named in
          (logged.holds.log n lt m).between.no_other i c (subst (λ (b : List ℕ). ShowsIn b r.record.flushed i c) (nvram_is n lt m) x);
      left_out = λ n lt out. unnamed n out;
    }

    names_sound : NamesSound (geometry_of shelf) stop.image known (slot_of r.record.generation) r.record
    names_sound = record {
      named = named;
      written = λ i lt s. shown_body (slot_of r.record.generation) (stop.image (drive i)) (spelling r.record) (shows i lt s);
    }

    all_of_it : (n : ℕ) → length held.log ≤ n → n ≤ length held.log → Contains arrays (after_all held.base (take n held.log))
    all_of_it n low high = subst (λ (l : List Command). Contains arrays (after_all held.base l)) (sym (take_all n held.log low)) one_of

    none_left_out : NamesNoneLeftOut known r.record
    none_left_out (dev.Drive d) out = no_drive d.0 out
    none_left_out (dev.Nv n) out = unnamed n.0 out

    is_read : IsReadInto (geometry_of shelf) stop.image known (slot_of r.record.generation) r.record arrays
    is_read = (record_is_read (geometry_of shelf) stop.image known (slot_of r.record.generation) r.record held.patches held.base held.log held.log arrays
        logged.is_of.lawful (record { in_its_slot = refl; not_spent = not_spent }) names_sound none_left_out (logged.tables stop may) logged.accepted lies all_of_it).0

    pub stands : Stands (geometry_of shelf) stop.image known arrays
    stands = held_stands (geometry_of shelf) stop.image known (slot_of r.record.generation) r.record arrays is.drives.0 bearable some_arrays logged.is_of.lawful is_held is_read

    pub alone : (slot2 : BootSlot) (boot2 : BootRecord) → MayBeGiven (geometry_of shelf) stop.image known slot2 boot2 → (slot2 ≡ slot_of r.record.generation) × (boot2 ≡ r.record)
    alone slot2 boot2 g =
        let mine = held_is_given (geometry_of shelf) stop.image known g.more g.view (slot_of r.record.generation) (spelling r.record) is.drives.0 is_held g.appears in
        let both = one_is_effective (geometry_of shelf) g.view slot2 (slot_of r.record.generation) (spelling boot2) (spelling r.record) g.effective mine in
        (both.0, spells_one (geometry_of shelf) boot2 r.record g.lawful logged.is_of.lawful both.1)

  pub in_force : IsInForceOn shelf (drives_of r) known (next_slot r.record) r.record
  in_force = record {
    lawful = logged.is_of.lawful;
    sound = sound;
    clean = λ i m s. (shown i m).clean;
    shown = λ i m s. subst (λ (t : BootSlot). shown_by t (shelf.disk (drive i)).bytes ≡ Some (spelling r.record)) (sym (twice_other (slot_of r.record.generation))) (shown i m).shown;
    given = λ start may. subst (λ (t : BootSlot). MayBeGiven (geometry_of shelf) start.image known t r.record) (sym (twice_other (slot_of r.record.generation))) (given start may);
  }

  pub may_store : MayStore shelf r nvrams known held arrays
  may_store = record {
    logged = logged;
    in_force = in_force;
    stands = stands;
    one_of = one_of;
    sound = nv_sound;
    left_out = left;
    unnamed = no_drive;
  }
