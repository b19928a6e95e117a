-- How the units of segments are marked as used, one after the other.
use Rattle.std.specs.Prelude.{◌≡◌, ℕ, ◌<◌, true, false, Bool, List, [], ◌∷◌, length, slice_index_or, ⊤}
use Rattle.std.specs.List.{flat_map}
use Rattle.array_spec.specs.Prelude.{Place, SegmentFact, PatchSegment, Patch}
use Rattle.unit_map.specs.declared.drive.Drive.{Drive}
use Rattle.unit_map.specs.Prelude.{drive_at, is_free, with_unit, as_member, IsPlace}

-- each is a free unit of the map, once those before it are used
abbrev pub CanMark : List Drive → List Place → Type 0
CanMark drives [] = ⊤
CanMark drives (p ∷ ps) = IsPlace drives p × (is_free drives p ≡ true) × CanMark (with_unit false drives p) ps

-- the units of data segments
abbrev pub data_units : List SegmentFact → List Place
data_units ds = flat_map (λ d. d.places) ds

-- the units of a patch's segments
abbrev pub patch_units : List PatchSegment → List Place
patch_units ss = flat_map (λ s. s.places) ss

-- the units of the segments of patches
abbrev pub patches_units : List Patch → List Place
patches_units ps = flat_map (λ p. patch_units p.segments) ps

-- each drive is a member where its flag is set, and its units are as they were
pub record SetsMembers (old new : List Drive) (flags : List Bool) : Type 0 where
  pub size : length new ≡ length old
  pub each : (slot : ℕ) → slot < length old → drive_at new slot ≡ as_member (slice_index_or flags slot false) (drive_at old slot)
