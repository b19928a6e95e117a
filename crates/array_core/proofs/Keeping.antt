-- A session can go on at a stop: in the conditions of the record, so in all that agree with it, and so counted since an earlier moment.
use Rattle.array_core.proofs.Prelude.{nat_tests, ◌≡◌, ◌⊎◌, inl, inr, ℕ, List, refl, sym, subst, arith, Bool, true, false, IsBytes, Geometry, Image, Condition, Conditions, Sound, LeftOut, IsBearable, is_missing, Device, Array, BootRecord, BootSlot, names, Stands, MayBeGiven, Rises, geometry_of, has_risen, losing, Shelved, Stop, Continues, IsCountedBy, LeavesOnly, WritesOnly, weaker, IsStanding, borne_on, still_sound, left_out_once, named_sound, not_risen_since, risen_on_way, AgreesWith, lost_by, IsKeptAt, sound_since}
use Rattle.array_core.proofs.Standing.{are_sound}
use Rattle.array_core.proofs.Agreeing.{lost_out, unnamed_is, named_bears, agreed_standing, standing_in}
use Rattle.nvram_log.proofs.SettledEach.{both_leave}
use Rattle.register.proofs.Opened.{is_left, is_named}
use Rattle.register.proofs.Rounds.{same_shelf}

-- ---- what is named

pub unnamed : (b : Bool) → (b ≡ true → ⊥) → b ≡ false
unnamed true not = absurd (not refl)
unnamed false not = refl

pub both_not : (b : Bool) → b ≡ true → b ≡ false → ⊥
both_not b e f = cc (e, f)

-- the record names no device that the other one doesn't name
abbrev pub NamesFewer : BootRecord → BootRecord → Type 0
NamesFewer was boot = (d : Device) → names boot d ≡ true → names was d ≡ true

pub goes_on : (shelf : Geometry) (was : BootRecord) (image : Image) (failed : Device → Bool) (arrays : List Array)
    → ((slot : BootSlot) (boot : BootRecord) → MayBeGiven shelf image (losing failed (named_sound was)) slot boot → NamesFewer was boot)
    → Stands shelf image (losing failed (named_sound was)) arrays → IsStanding shelf image (losing failed (named_sound was)) arrays
goes_on shelf was image failed arrays given stands = record {
  stands = stands;
  left_out = λ d out slot boot g. unnamed (names boot d) (λ e. both_not (names was d) (given slot boot g d e) (is_left (names was d) (left_out_once (failed d) (named_sound was d) out)));
}

-- ---- in all conditions that agree with the record

-- at a stop a session can go on in the conditions of the record
abbrev pub KeptNamed : Shelved → BootRecord → List Array → Stop → Type 0
KeptNamed a boot arrays stop = IsBearable (geometry_of a) (lost_by a stop (named_sound boot)) → IsStanding (geometry_of a) stop.image (lost_by a stop (named_sound boot)) arrays

pub kept : (a : Shelved) (boot : BootRecord) (arrays : List Array) (stop : Stop) → ((d : Device) → IsBytes (stop.image d)) → KeptNamed a boot arrays stop → IsKeptAt a boot arrays stop
kept a boot arrays stop bytes here now agrees borne =
    let failed : Device → Bool = λ d. has_risen (a.disk d).write_faults (stop.write_faults d) in
    agreed_standing boot now agrees failed (geometry_of a) stop.image bytes arrays borne (here (named_bears boot now agrees failed (geometry_of a) borne))

-- ---- since an earlier moment

-- a record that came after: it names no other device, and each that it doesn't name any more lost a write
pub record CameAfter (start now : Shelved) (was boot : BootRecord) : Type 0 where
  pub fewer : NamesFewer was boot
  pub dropped : (d : Device) → names was d ≡ true → (names boot d ≡ true) ⊎ Rises (start.disk d).write_faults (now.disk d).write_faults

missing_or_sound : (c : Condition) → (c ≡ Sound) ⊎ (is_missing c ≡ true)
missing_or_sound Sound = inl refl
missing_or_sound _ = inr refl

missing_not : (c : Condition) → c ≡ Sound → is_missing c ≡ true → ⊥
missing_not c e m = cc (subst (λ (x : Condition). is_missing x ≡ true) e m)

agrees_itself : (boot : BootRecord) → AgreesWith boot (named_sound boot)
agrees_itself boot = record { sound = λ d s. is_named (names boot d) s; left_out = λ d o. is_left (names boot d) o }

module _ (start mid : Shelved) (on : Continues start mid) (was boot : BootRecord) (after : CameAfter start mid was boot) (stop : Stop) (counts : IsCountedBy mid stop) (now : Conditions) (agrees : AgreesWith was now)
    (borne : IsBearable (geometry_of start) (lost_by start stop now)) where
  sounds : (d : Device) → lost_by start stop now d ≡ Sound → lost_by mid stop (named_sound boot) d ≡ Sound
  sounds d e = grind (arith, nat_tests, sound_since, has_risen, still_sound, named_sound, are_sound, names, not_risen_since, risen_on_way)

  outs : (d : Device) → lost_by start stop now d ≡ LeftOut → lost_by mid stop (named_sound boot) d ≡ LeftOut
  outs d e = grind (arith, nat_tests, names, left_out_once, has_risen, lost_out, named_sound, unnamed_is, unnamed, both_not)

  bears : IsBearable (geometry_of start) (lost_by mid stop (named_sound boot))
  bears = borne_on (geometry_of start) (lost_by mid stop (named_sound boot)) (lost_by start stop now) (λ d on m. elim (missing_or_sound (lost_by start stop now d)) [
    | inl s ↦ absurd (missing_not (lost_by mid stop (named_sound boot) d) (sounds d s) m)
    | inr is ↦ is
  ]) borne

  since : ((d : Device) → IsBytes (stop.image d)) → (arrays : List Array) → IsKeptAt mid boot arrays stop → IsStanding (geometry_of start) stop.image (lost_by start stop now) arrays
  since bytes arrays at = standing_in (geometry_of start) stop.image (lost_by mid stop (named_sound boot)) (lost_by start stop now) sounds outs borne bytes arrays
      (subst (λ (g : Geometry). IsStanding g stop.image (lost_by mid stop (named_sound boot)) arrays) (sym (same_shelf on))
      (at (named_sound boot) (agrees_itself boot) (subst (λ (g : Geometry). IsBearable g (lost_by mid stop (named_sound boot))) (same_shelf on) bears)))

pub kept_since : (start mid : Shelved) → Continues start mid → (was boot : BootRecord) → CameAfter start mid was boot → (arrays : List Array) (stop : Stop) → IsCountedBy mid stop → ((d : Device) → IsBytes (stop.image d))
    → IsKeptAt mid boot arrays stop → IsKeptAt start was arrays stop
kept_since start mid on was boot after arrays stop counts bytes at now agrees borne = since start mid on was boot after stop counts now agrees borne bytes arrays at

-- so at each stop of a run
pub run_since : (start mid new : Shelved) → Continues start mid → (was boot : BootRecord) → CameAfter start mid was boot → (arrays : List Array) {W : Device → ℕ → Type 0} → WritesOnly W mid new
    → LeavesOnly mid new (IsKeptAt mid boot arrays) → LeavesOnly mid new (IsKeptAt start was arrays)
run_since start mid new on was boot after arrays {W} writes all =
    weaker (λ stop x. kept_since start mid on was boot after arrays stop x.1.counts (λ d. (x.1.bytes d).is_byte) x.0) (both_leave all writes.any_moment)
