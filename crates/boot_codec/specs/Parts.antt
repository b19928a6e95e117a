-- Patches as parts of one list of segments.
use Rattle.std.specs.Prelude.{◌≡◌, ℕ, ◌-◌, ◌≤◌, List, length, take, drop, map}
use Rattle.std.specs.List.{AllByRecursion}
use Rattle.boot_codec.specs.declared.patch.PatchSegment.{PatchSegment}
use Rattle.boot_codec.specs.declared.patch.PatchHead.{PatchHead}
use Rattle.boot_codec.specs.declared.patch.Patch.{Patch}

-- the patch of a head, whose segments are its part of all of them
abbrev pub patch_of : List PatchSegment → PatchHead → Patch
patch_of all head = record { tag = head.tag; facts = head.facts; segments = take (head.end - head.start) (drop head.start all) }

-- the patches of some heads
abbrev pub patches_of : List PatchSegment → List PatchHead → List Patch
patches_of all heads = map (patch_of all) heads

-- the part lies within so many segments
pub record IsWithin (count : ℕ) (head : PatchHead) : Type 0 where
  pub ordered : head.start ≤ head.end
  pub within : head.end ≤ count

-- each part does
abbrev pub AreWithin : ℕ → List PatchHead → Type 0
AreWithin count heads = AllByRecursion (IsWithin count) heads

-- the head's part is what stands behind the old segments, which are as they were
pub record IsBehind (old new : List PatchSegment) (head : PatchHead) : Type 0 where
  pub start : head.start ≡ length old
  pub within : IsWithin (length new) head
  pub kept : take (length old) new ≡ old
