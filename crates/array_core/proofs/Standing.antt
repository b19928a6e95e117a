-- At every moment of writes in free units the devices stand for the array.
use Rattle.array_core.proofs.Prelude.{◌≡◌, inl, inr, ℕ, List, [], ◌∷◌, refl, ◌∙◌, ap, Bool, true, false, if◌then◌else◌, Device, Sound, LeftOut, IsOn, IsImage, drive, body_in, names, IsFree, DiffersOnlyIn, IsUnused, Stands, all_facts, NamesSound, quiet_writes, more_may_go_missing, NamesNoneLeftOut, Shelved, Stop, IsShelf, IsOf, geometry_of, LeavesBut, weaker, named_sound, IsMember, Register, drives_of, own_slot, Content, IsOpen, array_of, StandsAsBefore, in_cut, OnFree, FreeWritesStand}
use Rattle.pur_base.specs.declared.device.Device.TheVariants as dev
use Rattle.array_spec.proofs.Free.{free_is_unused}
use Rattle.array_core.proofs.Before.{at_before, before_stops, as_before, differs}
use Rattle.register.proofs.Opened.{is_left, is_named}

pub are_sound : (b : Bool) → b ≡ true → (if b then Sound else LeftOut) ≡ Sound
are_sound true e = refl
are_sound false e = absurd (cc e)

module _ (old : Shelved) (is : IsShelf old) (h : old.honest) (r : Register) (nvrams : List Bool) (held : Content) (o : IsOpen old r nvrams held) where
  -- a drive on which the record is in force isn't missing, and nothing is dirty on it
  pub member_sound : (i : ℕ) → IsMember (drives_of r) i → named_sound r.record (drive i) ≡ Sound
  member_sound i m = are_sound (names r.record (drive i)) (o.logged.is_of.named i (in_cut r.drives r.record.slots i m))

  pub member_clean : (i : ℕ) → IsMember (drives_of r) i → (old.disk (drive i)).dirty ≡ []
  member_clean i m = o.in_force.clean i m (member_sound i m)

  none_left_out : NamesNoneLeftOut (named_sound r.record) r.record
  none_left_out d out = is_left (names r.record d) out

  module _ (stop : Stop) (left : LeavesBut (OnFree r held) old stop) where
    abbrev before : Stop
    before = at_before old (is.bytes h) r held stop.image left.bytes

    names_sound : NamesSound (geometry_of old) before.image (named_sound r.record) (own_slot r.record) r.record
    names_sound = record {
      named = λ d on s. is_named (names r.record d) s;
      written = λ i lt s.
          let m = o.in_force.sound i lt s in
          ap (body_in (own_slot r.record)) (as_before old (is.bytes h) r held stop.image left.bytes i m) ∙ o.logged.bodies i m;
    }

    only_free : DiffersOnlyIn (λ i unit. IsFree r.record (all_facts held.patches) i unit) before.image stop.image
    only_free = differs old (is.bytes h) r held stop.image left.bytes member_clean

    unused : (i unit : ℕ) → IsFree r.record (all_facts held.patches) i unit → IsUnused (geometry_of old) before.image (named_sound r.record) i unit
    unused i unit free =
        let stops = before_stops old (is.bytes h) r held stop.image left.bytes in
        free_is_unused (geometry_of old) before.image (named_sound r.record) (own_slot r.record) r.record held.patches held.base i unit names_sound none_left_out
        (o.logged.tables before stops) (λ slot2 boot2 g. o.alone before slot2 boot2 stops g) free

    only_unused : DiffersOnlyIn (IsUnused (geometry_of old) before.image (named_sound r.record)) before.image stop.image
    only_unused = record {
      nvram = only_free.nvram;
      size = only_free.size;
      drive = λ i at. elim (only_free.drive i at) [
        | inl e ↦ inl e
        | inr free ↦ inr (unused i _ free)
      ];
    }

    is_of : (d : Device) → IsOn (geometry_of old) d → IsOf old d
    is_of (dev.Drive d) on = on
    is_of (dev.Nv n) on = on

    whole : IsImage (geometry_of old) stop.image
    whole d on = ((left.bytes d).size ∙ is.sizes h d (is_of d on), λ i. (left.bytes d).is_byte i)

    pub still : Stands (geometry_of old) stop.image (named_sound r.record) (array_of held ∷ [])
    still = quiet_writes (geometry_of old) before.image stop.image (named_sound r.record) (array_of held ∷ []) whole only_unused
        (o.stands before (before_stops old (is.bytes h) r held stop.image left.bytes))

    pub stands_then : StandsAsBefore old r held stop
    stands_then later account = more_may_go_missing (geometry_of old) stop.image (named_sound r.record) later (array_of held ∷ []) account.within account.bearable still

pub free_writes_stand : (old new : Shelved) → IsShelf old → FreeWritesStand old new
free_writes_stand old new is h r nvrams held o w = weaker (λ stop left. stands_then old is h r nvrams held o stop left) w.writes.any_moment
