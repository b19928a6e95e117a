-- What is known of an array that is ready.
use Rattle.array_core.proofs.Prelude.{nat_tests, ◌≡◌, inl, inr, ℕ, ◌<◌, List, [], ◌∷◌, sym, subst, arith, Bool, true, false, Device, Drive, Nv, Sound, IsBearable, drive, nvram, Conditions, BootRecord, names, geometry_of, Shelved, Stop, MayStop, IsStanding, LeftOutAreNamedByNone, named_sound, IsMember, member_below, Register, drives_of, Content, IsOpen, array_of, in_cut, cut_in, none_past, IsReady, IsHolder, NoneJoins, AgreesWith}
use Rattle.nvram_log.specs.Members as nv
use Rattle.array_core.specs.declared.array.Array.{Array}
use Rattle.array_core.proofs.Agreeing.{standing_in, unnamed_is}
use Rattle.array_core.proofs.Standing.{are_sound}
use Rattle.register.proofs.Opened.{is_left, is_named}

module _ (shelf : Shelved) (a : Array) (held : Content) (ready : IsReady shelf a held) where
  abbrev r : Register
  r = a.register

  abbrev o : IsOpen shelf r a.log.members held
  o = ready.is_open

  -- a drive of the record is one of the array
  drive_holds : (i : ℕ) → names r.record (drive i) ≡ true → IsMember (drives_of r) i
  drive_holds i e = grind (arith, nat_tests, cut_in, none_past)

  nvram_holds : (n : ℕ) → names r.record (nvram n) ≡ true → nv.IsMember a.log.members n
  nvram_holds n e = subst (λ (l : List Bool). nv.IsMember l n) o.nvrams_are e

  nvram_there : (n : ℕ) → names r.record (nvram n) ≡ true → n < 2
  nvram_there n e = omega (arith, member_below r.record.members.nvrams n e, o.logged.is_of.lawful.lawful.members.nvram_flags)

  pub ready_holds : (d : Device) → names r.record d ≡ true → IsHolder a d
  ready_holds (Drive d) e = drive_holds d.0 e
  ready_holds (Nv n) e = nvram_holds n.0 e

  pub ready_names : (d : Device) → IsHolder a d → names r.record d ≡ true
  ready_names (Drive d) h = o.logged.is_of.named d.0 (in_cut r.drives r.record.slots d.0 h)
  ready_names (Nv n) h = subst (λ (l : List Bool). nv.IsMember l n.0) (sym o.nvrams_are) h

  -- the record names no device that it didn't name
  pub named_before : (now : Array) → NoneJoins a now → (d : Device) → names now.register.record d ≡ true → names r.record d ≡ true
  named_before now none d e = elim (none.named d e) [ inl is ↦ is | inr h ↦ ready_names d h ]

  pub bearable : IsBearable (geometry_of shelf) (named_sound r.record)
  bearable = o.bearable

  pub ready_is_clean : (d : Device) → named_sound r.record d ≡ Sound → (shelf.disk d).dirty ≡ []
  ready_is_clean (Drive d) s = o.in_force.clean d.0 (drive_holds d.0 (is_named (names r.record (Drive d)) s)) s
  ready_is_clean (Nv n) s = let e = is_named (names r.record (Nv n)) s in o.logged.holds.clean n.0 (nvram_there n.0 e) (nvram_holds n.0 e)

  module _ (stop : Stop) (may : MayStop shelf stop) where
    left_out : LeftOutAreNamedByNone (geometry_of shelf) stop.image (named_sound r.record)
    left_out d out slot boot g =
        subst (λ (b : BootRecord). names b d ≡ false) (sym ((o.alone stop slot boot may g).1)) (is_left (names r.record d) out)

    pub ready_stands : IsStanding (geometry_of shelf) stop.image (named_sound r.record) (array_of held ∷ [])
    ready_stands = record { stands = o.stands stop may; left_out = left_out }

  -- so in all conditions that agree with the record
  pub ready_stands_in : (now : Conditions) → AgreesWith r.record now → IsBearable (geometry_of shelf) now → (stop : Stop) → MayStop shelf stop → IsStanding (geometry_of shelf) stop.image now (array_of held ∷ [])
  ready_stands_in now agrees bears stop may =
      standing_in (geometry_of shelf) stop.image (named_sound r.record) now (λ d e. are_sound (names r.record d) (agrees.sound d e)) (λ d e. unnamed_is (names r.record d) (agrees.left_out d e)) bears
      (λ d. (may.device d).is_byte) (array_of held ∷ []) (ready_stands stop may)

-- the record's own conditions agree with it
pub agrees_named : (boot : BootRecord) → AgreesWith boot (named_sound boot)
agrees_named boot = record { sound = λ d e. is_named (names boot d) e; left_out = λ d e. is_left (names boot d) e }
