-- While a record is shown by each drive that isn't missing, what else may be given is of a later generation.
use Rattle.takeover.proofs.Prelude.{◌≡◌, ◌⊎◌, inl, inr, ℕ, ◌<◌, ◌≤◌, List, sym, ◌∙◌, ap, subst, arith, Some, cases_lt, SLOTS_MIN, Geometry, Image, View, Conditions, Sound, drive, Array, BootRecord, spelling, BootSlot, IsRecordOf, IsDecided, votes, other_slot, shown_by, slot_of, generation_in, Yields, IsInForce, Stands, MayBeGiven, IsViewOf, this_or_other, twice_other, spells_one, one_is_decided}
use Rattle.boot_region.proofs.Composing.{all_decide}
use Rattle.register.proofs.Numbers.{generation_spelled, slots_differ, yields_le}

module _ (shelf : Geometry) (image : Image) (missing : Conditions) (arrays : List Array) (slot : BootSlot) (boot : BootRecord) (eleven : SLOTS_MIN ≤ shelf.slots)
    (lawful : IsRecordOf shelf boot) (own : IsInForce slot boot) (shows : (i : ℕ) → i < shelf.slots → missing (drive i) ≡ Sound → shown_by slot (image (drive i)) ≡ Some (spelling boot))
    (s : Stands shelf image missing arrays) (view : View) (v : IsViewOf shelf image missing missing view)
    (slot2 : BootSlot) (boot2 : BootRecord) (g : MayBeGiven shelf image missing slot2 boot2) where
  decided : IsDecided (votes shelf g.view slot) (spelling boot)
  decided = all_decide shelf image missing g.more g.view slot (spelling boot) eleven shows g.appears

  same : slot2 ≡ slot → boot2 ≡ boot
  same e =
      let mine : IsDecided (votes shelf g.view slot) (spelling boot2) = subst (λ (t : BootSlot). IsDecided (votes shelf g.view t) (spelling boot2)) e g.effective.decided in
      spells_one shelf boot2 boot g.lawful lawful (one_is_decided (votes shelf g.view slot) (spelling boot2) (spelling boot) mine decided)

  no_older : slot2 ≡ other_slot slot → boot.generation ≤ boot2.generation
  no_older e =
      let back : slot ≡ other_slot slot2 = sym (ap other_slot e ∙ twice_other slot) in
      let yields : Yields slot2 (generation_in (spelling boot)) (generation_in (spelling boot2)) =
      g.effective.highest (spelling boot) (subst (λ (t : BootSlot). IsDecided (votes shelf g.view t) (spelling boot)) back decided) in
      let le : generation_in (spelling boot) ≤ generation_in (spelling boot2) = yields_le slot2 (generation_in (spelling boot)) (generation_in (spelling boot2)) yields in
      subst (λ (a : ℕ). a ≤ boot2.generation) (generation_spelled boot lawful.lawful)
      (subst (λ (b : ℕ). generation_in (spelling boot) ≤ b) (generation_spelled boot2 g.lawful.lawful) le)

  -- of the same generation it would be in the same slot
  apart : slot2 ≡ other_slot slot → boot2.generation ≡ boot.generation → ⊥
  apart e eq =
      let theirs : slot2 ≡ slot_of boot2.generation = ((s.reads slot2 boot2 g).each missing view v).in_force.in_its_slot in
      slots_differ slot (own.in_its_slot ∙ ap slot_of (sym eq) ∙ sym theirs ∙ e)

  pub this_or_later : ((slot2 ≡ slot) × (boot2 ≡ boot)) ⊎ (boot.generation < boot2.generation)
  this_or_later = elim (this_or_other slot2 slot) [
    | inl e ↦ inl (e, same e)
    | inr e ↦ elim (cases_lt boot.generation boot2.generation) [
      | inl lt ↦ inr lt
      | inr ge ↦ absurd (apart e (omega (arith, ge, no_older e)))
    ]
  ]
