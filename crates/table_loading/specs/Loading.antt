-- What is loaded of the patches that a record names.
use Rattle.std.specs.Prelude.{◌≡◌, ◌⊎◌, ℕ, ◌<◌, ◌==◌, false, Bool, List, None, Some}
use Rattle.std.specs.List.{AllByRecursion, filter}
use Rattle.array_spec.specs.Prelude.{View, drive, nvram, AnyFact, Patch, BootRecord, PatchStands, PatchIsShown}
use Rattle.world.specs.Prelude.{Shelved, Continues, WritesOnly, has_risen}
use Rattle.segment_io.specs.Prelude.{NoByte, OnlyLooks, is_in, bytes_of}
use Rattle.patch_io.specs.Prelude.{AreFactsOf, ShowsPatch, StripesStandOf, ShowsNoOtherOfPatch}

-- ---- views

-- each drive that isn't missing is shown as it stands
abbrev pub ShowsDrives : Shelved → List Bool → View → Type 0
ShowsDrives shelf missing view = (slot : ℕ) → slot < shelf.drives → is_in missing slot ≡ false → view (drive slot) ≡ Some (bytes_of shelf (drive slot))

-- each drive is shown as it stands, or not at all; one that is missing, or on which a call failed, isn't shown
abbrev pub ShowsNoOtherDrive : Shelved → Shelved → List Bool → View → Type 0
ShowsNoOtherDrive old new missing view = (slot : ℕ) → slot < old.drives → (view (drive slot) ≡ None)
    ⊎ ((view (drive slot) ≡ Some (bytes_of old (drive slot))) × (is_in missing slot ≡ false) × (has_risen (old.disk (drive slot)).faults (new.disk (drive slot)).faults ≡ false))

-- each stripe of all patches stands
abbrev pub StripesStandOfAll : View → BootRecord → Type 0
StripesStandOfAll view boot = AllByRecursion (StripesStandOf view) boot.patches

-- ---- patches

-- the patches of the table with that tag
abbrev pub of_tag : ℕ → List Patch → List Patch
of_tag tag ps = filter (λ p. p.tag == tag) ps

-- What was decoded of a patch. It stands as the patch where its stripes do, by its present drives, and is what the drives show that answered.
pub record IsLoaded (old new : Shelved) (missing : List Bool) (p : Patch) (facts : List AnyFact) : Type 0 where
  pub decoded : AreFactsOf p facts
  pub stands : old.honest → (view : View) → ShowsPatch old p missing view → StripesStandOf view p → PatchStands view p facts
  pub shown : old.honest → (view : View) → ShowsNoOtherOfPatch old new p missing view → PatchIsShown view p facts

-- ---- the shelf

-- the drives are read, and nothing else is done
pub record OnlyReads (old new : Shelved) : Type 0 where
  pub continues : Continues old new
  pub nvrams : (n : ℕ) → new.disk (nvram n) ≡ old.disk (nvram n)
  pub looks : OnlyLooks old new
  pub writes : old.honest → WritesOnly NoByte old new
