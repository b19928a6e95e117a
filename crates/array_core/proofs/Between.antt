-- An open array: what an image in which the drives are as they were stands for, by what the NVRAM devices show, whatever more is missing.
use Rattle.array_core.proofs.Prelude.{◌≡◌, ℕ, ◌<◌, List, refl, ap, Bool, false, Some, Image, Conditions, Sound, LeftOut, IsBearable, IsWithin, drive, nvram, Device, Array, Command, BootRecord, spelling, BootSlot, shown_by, names, Stands, MayBeGiven, MayAppear, IsHeld, LogLies, NamesSound, held_is_given, sound_before, TablesHold, NamesNoneLeftOut, record_is_read, Shelved, IsShelf, geometry_of, was_left_out, named_sound, IsMember, shown_body, IsBetween, Register, drives_of, own_slot, Content, IsOpen, LeadTo}
use Rattle.array_spec.proofs.Held.{held_stands}
use Rattle.boot_region.proofs.Composing.{as_it_is}
use Rattle.nvram_log.specs.Members as nv
use Rattle.array_core.proofs.Reopened.{not_spent, nvram_named}
use Rattle.array_core.proofs.Alone.{alone_in, held}
use Rattle.register.proofs.Opened.{is_left, is_named}

module _ (shelf : Shelved) (is : IsShelf shelf) (h : shelf.honest) (r : Register) (nvrams : List Bool) (content : Content) (o : IsOpen shelf r nvrams content) (image : Image) (later : Conditions)
    (within : IsWithin (named_sound r.record) later) (bears : IsBearable (geometry_of shelf) later)
    (drive_is : (i : ℕ) → IsMember (drives_of r) i → image (drive i) ≡ (shelf.disk (drive i)).bytes) where
  was_sound : (d : Device) → later d ≡ Sound → named_sound r.record d ≡ Sound
  was_sound d s = sound_before (named_sound r.record d) (later d) (within d) s

  shown_is : (i : ℕ) → IsMember (drives_of r) i → (slot : BootSlot) → shown_by slot (image (drive i)) ≡ shown_by slot (shelf.disk (drive i)).bytes
  shown_is i m slot = ap (shown_by slot) (drive_is i m)

  holds : IsHeld (geometry_of shelf) image later (own_slot r.record) (spelling r.record)
  holds = held shelf is r nvrams content o image later within shown_is

  pub given : MayBeGiven (geometry_of shelf) image later (own_slot r.record) r.record
  given =
      let a : MayAppear (geometry_of shelf) image later later (λ k. Some (image k)) = record { within = as_it_is later; bearable = bears; shown = λ k s. refl } in
      record {
        more = later;
        view = λ k. Some (image k);
        appears = a;
        lawful = o.logged.is_of.lawful;
        effective = held_is_given (geometry_of shelf) image later later (λ k. Some (image k)) (own_slot r.record) (spelling r.record) is.drives.0 holds a;
      }

  pub alone : (slot2 : BootSlot) (boot2 : BootRecord) → MayBeGiven (geometry_of shelf) image later slot2 boot2 → (slot2 ≡ own_slot r.record) × (boot2 ≡ r.record)
  alone slot2 boot2 g = alone_in shelf is r nvrams content o image later within shown_is slot2 boot2 g

  -- an NVRAM device that isn't missing holds the log
  pub member_of : (n : ℕ) → later (nvram n) ≡ Sound → nv.IsMember nvrams n
  member_of n s = nvram_named shelf is h r nvrams content o n (is_named (names r.record (nvram n)) (was_sound (nvram n) s))

  -- and one that was left out is none of the record's
  pub not_named : (n : ℕ) → later (nvram n) ≡ LeftOut → names r.record (nvram n) ≡ false
  not_named n out = is_left (names r.record (nvram n)) (was_left_out (named_sound r.record (nvram n)) (later (nvram n)) (within (nvram n)) out)

  -- the devices show a log between these
  module _ (least most : List Command) (arrays : List Array) (to : LeadTo r content.base least most arrays)
      (tables : TablesHold (geometry_of shelf) image (own_slot r.record) r.record content.patches content.base)
      (between : (n : ℕ) → n < 2 → nv.IsMember nvrams n → IsBetween (image (nvram n)) r.record.flushed least most) where
    lies : LogLies image later r.record least most
    lies = record {
      front = to.front;
      room = to.room;
      lawful = to.spelled;
      all = λ n i c lt s at. (between n lt (member_of n s)).all i c at;
      no_other = λ n i c lt named x. (between n lt (nvram_named shelf is h r nvrams content o n named)).no_other i c x;
      left_out = λ n lt out. not_named n out;
    }

    names_sound : NamesSound (geometry_of shelf) image later (own_slot r.record) r.record
    names_sound = record {
      named = λ d on s. is_named (names r.record d) (was_sound d s);
      written = λ i lt s. shown_body (own_slot r.record) (image (drive i)) (spelling r.record) (holds.shown i lt s);
    }

    none_left_out : NamesNoneLeftOut later r.record
    none_left_out d out = is_left (names r.record d) (was_left_out (named_sound r.record d) (later d) (within d) out)

    pub stands : Stands (geometry_of shelf) image later arrays
    stands = held_stands (geometry_of shelf) image later (own_slot r.record) r.record arrays is.drives.0 bears to.some o.logged.is_of.lawful holds
        (record_is_read (geometry_of shelf) image later (own_slot r.record) r.record content.patches content.base least most arrays
        o.logged.is_of.lawful (record { in_its_slot = refl; not_spent = not_spent shelf is h r nvrams content o }) names_sound none_left_out tables to.accepted lies to.fronts).0
