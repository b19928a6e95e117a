-- A volume of an array in memory owns its medium.
use Rattle.std.proofs.Common.{◌≡◌, ◌≢◌, ℕ, ◌+◌, ◌≤◌, List, refl, sym, ◌∙◌, inl, inr, Contains}
use Rattle.array_spec.specs.Prelude.{Facts, objects, Volume, ObjectFact, AreObjectsSound, AreMediumsSound, OwnsMedium}
use Rattle.memory_spec.specs.Adding.{IsOwnMedium}
use Rattle.memory_spec.specs.Laws.{VolumesOwn}
use Rattle.memory_spec.specs.lemmas.Lists.{pairs_of}
use Rattle.memory_spec.specs.lemmas.Objects.{of_objects}

-- as soundness alone tells
pub owns : (f : Facts) (next : ℕ) (name : List ℕ) (x : ObjectFact) (lba count : ℕ) → AreObjectsSound f next → AreMediumsSound f → Contains (objects f next) x → x.name ≡ name → x.kind ≡ Volume
    → lba + count ≤ x.sectors → IsOwnMedium f next name x.medium.0 lba count
owns f next name x lba count o m c named volume fits = record {
  owner = x;
  there = c;
  named = named;
  its = refl;
  fits = fits;
  one_name = λ y d e. elim (pairs_of (λ a b. a.name ≢ b.name) (objects f next) y x o.names d c) [
    | inl same ↦ same
    | inr either ↦ elim either [ inl ne ↦ absurd (ne (e ∙ sym named)) | inr ne ↦ absurd (ne (named ∙ sym e)) ]
  ];
  alone = λ y d e. elim (pairs_of (λ a b. OwnsMedium a b × OwnsMedium b a) (objects f next) y x o.mediums d c) [
    | inl same ↦ same
    | inr either ↦ elim either [ inl p ↦ absurd (p.1 volume (sym e)) | inr p ↦ absurd (p.0 volume (sym e)) ]
  ];
  frozen = λ n start r e. m.frozen x.object.0 n start x r (of_objects f next x c).0 volume e;
}

pub volumes_own : VolumesOwn
volumes_own contents m array name x lba count r c named volume fits = owns _ m.next.object name x lba count r.sound.objects r.sound.mediums c named volume fits
