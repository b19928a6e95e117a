-- Of an open array the record alone may be given by an image in which its drives show in their boot slots what they did.
use Rattle.array_core.proofs.Prelude.{nat_tests, ◌≡◌, ◌⊎◌, inl, inr, ℕ, ◌+◌, ◌*◌, ◌≤◌, ◌<◌, List, refl, sym, ◌∙◌, subst, arith, Bool, false, Some, count_by, range_with_len, cases_Bool, Image, Conditions, Sound, IsWithin, is_sound, drive, Device, BootRecord, spelling, BootSlot, other_slot, body_in, shown_by, generation_in, Yields, MayBeGiven, IsHeld, is_sound_vote, one_is_effective, held_is_given, sound_before, twice_other, spells_one, Shelved, IsShelf, geometry_of, named_sound, IsMember, shown_body, Register, drives_of, own_slot, next_slot, Content, IsOpen}
use Rattle.std.specs.Str.{bytes_eq}
use Rattle.std.specs.Cmp.Lexicographic.{same_text}
use Rattle.boot_region.proofs.Composing.{is_sound_is, votes_not}
use Rattle.boot_region.proofs.StillGiven.{yields_or}
use Rattle.boot_region.proofs.Stored.{count_none}

module _ (shelf : Shelved) (is : IsShelf shelf) (r : Register) (nvrams : List Bool) (content : Content) (o : IsOpen shelf r nvrams content) (image : Image) (later : Conditions) (within : IsWithin (named_sound r.record) later)
    (shown_is : (i : ℕ) → IsMember (drives_of r) i → (slot : BootSlot) → shown_by slot (image (drive i)) ≡ shown_by slot (shelf.disk (drive i)).bytes) where
  was_sound : (d : Device) → later d ≡ Sound → named_sound r.record d ≡ Sound
  was_sound d s = sound_before (named_sound r.record d) (later d) (within d) s

  sound_in : (i : ℕ) → i < shelf.drives → later (drive i) ≡ Sound → IsMember (drives_of r) i
  sound_in i lt s = o.in_force.sound i lt (was_sound (drive i) s)

  shows : (i : ℕ) → i < shelf.drives → later (drive i) ≡ Sound → shown_by (own_slot r.record) (image (drive i)) ≡ Some (spelling r.record)
  shows i lt s = grind (arith, nat_tests, sound_in, own_slot, shown_by, drive, spelling, twice_other, was_sound)

  -- what a drive shows in the other slot is older
  no_vote : (other : List ℕ) → (Yields (own_slot r.record) (generation_in other) (generation_in (spelling r.record)) → ⊥)
      → (i : ℕ) → i < shelf.drives → is_sound_vote image later (next_slot r.record) other i ≡ false
  no_vote other newer i lt = elim (cases_Bool (is_sound (later (drive i)))) [
    | inr unsound ↦ rw unsound refl
    | inl s ↦
        let sound = is_sound_is (later (drive i)) s in
        let m = sound_in i lt sound in
        rw s (votes_not (shown_by (next_slot r.record) (image (drive i))) other (λ x e. differs x m (was_sound (drive i) sound)
        (sym (shown_body (next_slot r.record) (shelf.disk (drive i)).bytes x (sym (shown_is i m (next_slot r.record)) ∙ e)))))
  ]
    where
      differs : (x : List ℕ) → IsMember (drives_of r) i → named_sound r.record (drive i) ≡ Sound → x ≡ body_in (next_slot r.record) (shelf.disk (drive i)).bytes → bytes_eq x other ≡ false
      differs x m sound e = elim (cases_Bool (bytes_eq x other)) [
        | inr no_same ↦ no_same
        | inl same ↦
            let is_x : Yields (own_slot r.record) (generation_in x) (generation_in (spelling r.record)) =
            subst (λ (t : BootSlot). Yields t (generation_in x) (generation_in (spelling r.record))) (twice_other (own_slot r.record))
            (subst (λ (l : List ℕ). Yields (other_slot (next_slot r.record)) (generation_in l) (generation_in (spelling r.record))) (sym e) (o.older i m sound)) in
            absurd (newer (subst (λ (l : List ℕ). Yields (own_slot r.record) (generation_in l) (generation_in (spelling r.record))) (same_text x other (sym same)) is_x))
      ]

  few : (other : List ℕ) → Yields (own_slot r.record) (generation_in other) (generation_in (spelling r.record))
      ⊎ (2 * (count_by (is_sound_vote image later (next_slot r.record) other) (range_with_len 0 shelf.drives) + 2) ≤ shelf.drives)
  few other = elim (yields_or (own_slot r.record) (generation_in other) (generation_in (spelling r.record))) [
    | inl yields ↦ inl yields
    | inr newer ↦
        let none = count_none (is_sound_vote image later (next_slot r.record) other) 0 shelf.drives (λ i low lt. no_vote other newer i (omega (arith, lt))) in
        inr (omega (arith, none, is.drives.0))
  ]

  pub held : IsHeld (geometry_of shelf) image later (own_slot r.record) (spelling r.record)
  held = record { shown = shows; few = few }

  pub alone_in : (slot2 : BootSlot) (boot2 : BootRecord) → MayBeGiven (geometry_of shelf) image later slot2 boot2 → (slot2 ≡ own_slot r.record) × (boot2 ≡ r.record)
  alone_in slot2 boot2 g =
      let mine = held_is_given (geometry_of shelf) image later g.more g.view (own_slot r.record) (spelling r.record) is.drives.0 held g.appears in
      let both = one_is_effective (geometry_of shelf) g.view slot2 (own_slot r.record) (spelling boot2) (spelling r.record) g.effective mine in
      (both.0, spells_one (geometry_of shelf) boot2 r.record g.lawful o.logged.is_of.lawful both.1)
