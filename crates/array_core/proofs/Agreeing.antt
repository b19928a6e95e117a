-- Conditions that agree with the record: what goes on in those of the record does so in these.
use Rattle.array_core.proofs.Prelude.{arith, ◌≤◌, count_by, if◌then◌else◌, ◌≡◌, ◌⊎◌, inl, inr, ℕ, List, refl, sym, subst, Bool, true, false, nat_tests, IsBytes, Device, Geometry, Image, Condition, Conditions, Sound, Missing, LeftOut, IsBearable, IsWithin, MayBecome, is_missing, slots_of, nvrams, drive, nvram, Array, BootRecord, BootSlot, names, MayBeGiven, AreCleared, more_may_go_missing, missing_if, losing, IsStanding, borne_on, still_sound, left_out_once, named_sound, AgreesWith, sound_since}
use Rattle.array_spec.proofs.Cleared.{marks_may_clear}
use Rattle.array_core.proofs.Standing.{are_sound}

-- ---- conditions in which no more is sound, and nothing more left out

-- as in the first ones, but for what is sound there and missing in the others
meet : Condition → Condition → Condition
meet Sound Sound = Sound
meet Sound Missing = Missing
meet Sound LeftOut = Missing
meet Missing n = Missing
meet LeftOut n = LeftOut

may_meet : (c n : Condition) → MayBecome c (meet c n)
unfolding meet
may_meet Sound Sound = inl refl
may_meet Sound Missing = inr refl
may_meet Sound LeftOut = inr refl
may_meet _ n = refl

met_cleared : (c n : Condition) → (n ≡ Sound → c ≡ Sound) → (n ≡ LeftOut → c ≡ LeftOut) → (n ≡ meet c n) ⊎ ((meet c n ≡ LeftOut) × (n ≡ Missing))
unfolding meet
met_cleared Sound Sound s o = inl refl
met_cleared Sound LeftOut s o = absurd (cc (o refl))
met_cleared Missing Sound s o = absurd (cc (s refl))
met_cleared Missing LeftOut s o = absurd (cc (o refl))
met_cleared LeftOut Sound s o = absurd (cc (s refl))
met_cleared LeftOut Missing s o = inr (refl, refl)
met_cleared LeftOut LeftOut s o = inl refl
met_cleared _ Missing s o = inl refl

met_missing : (c n : Condition) → (n ≡ Sound → c ≡ Sound) → is_missing (meet c n) ≡ true → is_missing n ≡ true
unfolding meet
met_missing Sound Sound s e = absurd (cc e)
met_missing Sound LeftOut s e = refl
met_missing Missing Sound s e = absurd (cc (s refl))
met_missing Missing LeftOut s e = refl
met_missing LeftOut Sound s e = absurd (cc (s refl))
met_missing LeftOut LeftOut s e = refl
met_missing _ Missing s e = refl

-- with as many missing as in the others, the marks of the first ones
relabel : Condition → Condition → Condition
relabel Sound m = m
relabel Missing m = Missing
relabel LeftOut m = LeftOut

may_relabel : (c n m : Condition) → (n ≡ LeftOut → c ≡ LeftOut) → MayBecome n m → MayBecome c (relabel c m)
unfolding relabel
may_relabel Sound Sound m o w = w
may_relabel Sound Missing m o w = inr w
may_relabel Sound LeftOut m o w = absurd (cc (o refl))
may_relabel _ n m o w = refl

as_missing : (c n m : Condition) → (n ≡ Sound → c ≡ Sound) → MayBecome n m → is_missing (relabel c m) ≡ is_missing m
unfolding relabel
as_missing Sound n m s w = refl
as_missing Missing Missing m s w = rw w refl
as_missing Missing LeftOut m s w = rw w refl
as_missing LeftOut Missing m s w = rw w refl
as_missing LeftOut LeftOut m s w = rw w refl
as_missing _ Sound m s w = absurd (cc (s refl))

sound_still : (c m : Condition) → relabel c m ≡ Sound → m ≡ Sound
unfolding relabel
sound_still Sound m e = e
sound_still _ m e = absurd (cc e)

missing_or_sound : (c : Condition) → (c ≡ Sound) ⊎ (is_missing c ≡ true)
missing_or_sound Sound = inl refl
missing_or_sound _ = inr refl

missing_not : (c : Condition) → c ≡ Sound → is_missing c ≡ true → ⊥
missing_not c e m = cc (subst (λ (x : Condition). is_missing x ≡ true) e m)

pub borne_named : (shelf : Geometry) (first now : Conditions) → ((d : Device) → now d ≡ Sound → first d ≡ Sound) → IsBearable shelf now → IsBearable shelf first
borne_named shelf first now sound bears = borne_on shelf first now (λ d on m. elim (missing_or_sound (now d)) [
  | inl s ↦ absurd (missing_not (first d) (sound d s) m)
  | inr is ↦ is
]) bears

module _ (shelf : Geometry) (image : Image) (first now : Conditions) (sound : (d : Device) → now d ≡ Sound → first d ≡ Sound) (out : (d : Device) → now d ≡ LeftOut → first d ≡ LeftOut)
    (bears : IsBearable shelf now) where
  between : Conditions
  between d = meet (first d) (now d)

  within : IsWithin first between
  unfolding between
  within d = may_meet (first d) (now d)

  clears : AreCleared between now
  unfolding between
  clears d = met_cleared (first d) (now d) (sound d) (out d)

  bears_between : IsBearable shelf between
  unfolding between
  bears_between = borne_on shelf between now (λ d on m. met_missing (first d) (now d) (sound d) m) bears

  module _ (more : Conditions) (goes : IsWithin now more) where
    less : Conditions
    less d = relabel (first d) (more d)

    less_within : IsWithin first less
    unfolding less
    less_within d = may_relabel (first d) (now d) (more d) (out d) (goes d)

    less_missing : (d : Device) → is_missing (less d) ≡ is_missing (more d)
    unfolding less
    less_missing d = as_missing (first d) (now d) (more d) (sound d) (goes d)

    less_bears : IsBearable shelf more → IsBearable shelf less
    less_bears b = record {
      drives = subst (λ (n : ℕ). n ≤ 2) (λ k. count_by (λ i. sym (less_missing (drive i)) k) (slots_of shelf)) b.drives;
      nvrams = subst (λ (n : ℕ). n ≤ 1) (λ k. count_by (λ i. sym (less_missing (nvram i)) k) nvrams) b.nvrams;
    }

    less_sound : (d : Device) → less d ≡ Sound → more d ≡ Sound
    unfolding less
    less_sound d e = sound_still (first d) (more d) e

  given : {slot : BootSlot} {boot : BootRecord} → MayBeGiven shelf image now slot boot → MayBeGiven shelf image first slot boot
  given g = record {
    more = less g.more g.appears.within;
    view = g.view;
    appears = record {
      within = less_within g.more g.appears.within;
      bearable = less_bears g.more g.appears.within g.appears.bearable;
      shown = λ d s. g.appears.shown d (less_sound g.more g.appears.within d s);
    };
    lawful = g.lawful;
    effective = g.effective;
  }

  pub standing_in : ((d : Device) → IsBytes (image d)) → (arrays : List Array) → IsStanding shelf image first arrays → IsStanding shelf image now arrays
  standing_in bytes arrays s = record {
    stands = marks_may_clear shelf image between now arrays bytes clears (more_may_go_missing shelf image first between arrays within bears_between s.stands);
    left_out = λ d e slot boot g. s.left_out d (out d e) slot boot (given g);
  }

-- ---- conditions that agree with the record

pub unnamed_is : (b : Bool) → b ≡ false → (if b then Sound else LeftOut) ≡ LeftOut
unnamed_is true e = absurd (cc e)
unnamed_is false e = refl

pub lost_out : (b : Bool) (c : Condition) → c ≡ LeftOut → missing_if b c ≡ LeftOut
lost_out b LeftOut e = refl
lost_out b _ e = absurd (cc e)

module _ (boot : BootRecord) (now : Conditions) (agrees : AgreesWith boot now) (failed : Device → Bool) where
  named_sounds : (d : Device) → losing failed now d ≡ Sound → losing failed (named_sound boot) d ≡ Sound
  named_sounds d e = grind (arith, nat_tests, sound_since, still_sound, named_sound, are_sound, names)

  named_outs : (d : Device) → losing failed now d ≡ LeftOut → losing failed (named_sound boot) d ≡ LeftOut
  named_outs d e = lost_out (failed d) (named_sound boot d) (unnamed_is (names boot d) (agrees.left_out d (left_out_once (failed d) (now d) e)))

  pub named_bears : (shelf : Geometry) → IsBearable shelf (losing failed now) → IsBearable shelf (losing failed (named_sound boot))
  named_bears shelf bears = borne_named shelf (losing failed (named_sound boot)) (losing failed now) named_sounds bears

  pub agreed_standing : (shelf : Geometry) (image : Image) → ((d : Device) → IsBytes (image d)) → (arrays : List Array) → IsBearable shelf (losing failed now)
      → IsStanding shelf image (losing failed (named_sound boot)) arrays → IsStanding shelf image (losing failed now) arrays
  agreed_standing shelf image bytes arrays bears s = standing_in shelf image (losing failed (named_sound boot)) (losing failed now) named_sounds named_outs bears bytes arrays s
