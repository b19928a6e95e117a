-- Why a patch is not loaded.
use Rattle.std.specs.Prelude.{◌≡◌, ◌≢◌, ◌⊎◌, ℕ, ◌<◌, ◌≤◌, true, false, Bool, List, ◌++◌, length}
use Rattle.array_spec.specs.Prelude.{View, Device, SEGMENT_SHARDS, Place, AnyFact, Patch, PatchStands, places_of_part}
use Rattle.world.specs.Prelude.{Rises, Shelved}
use Rattle.segment_io.specs.Prelude.{is_in, place_of, drive_of, HoldsThree, AreLost, ShowsPresent, is_missing_in}
use Rattle.patch_io.specs.Tables.{AreInOrder}
use Rattle.patch_io.specs.Standing.{StandIn, ShowsPatch}
use Rattle.patch_io.specs.declared.fault.PatchFault.{PatchFault}
use Rattle.patch_io.specs.declared.fault.PatchFault.TheVariants.{Bad, Lost, Memory}

-- no such facts stand in the segment, or it is lost, or memory ran out
abbrev pub IsPartFault : Shelved → Shelved → List Place → List Bool → ℕ → ℕ → List AnyFact → PatchFault → Type 0
IsPartFault old new places missing tag count facts Bad = old.honest → (view : View) (added : List AnyFact) → ShowsPresent old places missing view → length added ≡ count → StandIn view places added → ¬ AreInOrder tag (facts ++ added)
IsPartFault old new places missing tag count facts (Lost lost) = AreLost old new places (is_missing_in missing places) lost.drives
IsPartFault old new places missing tag count facts (Memory m) = Unit {0}

-- The set holds three of the nine drives, each missing or failed between the two moments.
-- They are exactly those that are missing, and those on which a call failed since the segment's read began.
pub record AreLostSince (old new : Shelved) (places : List Place) (missing : List Bool) (drives : List Bool) : Type 0 where
  -- the failed calls when it began
  pub faults : Device → ℕ
  pub since : (device : Device) → (old.disk device).faults ≤ faults device
  pub three : HoldsThree places drives
  pub no_other : (slot : ℕ) → is_in drives slot ≡ true → (shard : ℕ) × (shard < SEGMENT_SHARDS) × (slot ≡ (place_of places shard).slot)
  pub cause : (shard : ℕ) → shard < SEGMENT_SHARDS → is_in drives (place_of places shard).slot ≡ true → (is_missing_in missing places shard ≡ true) ⊎ Rises (faults (drive_of places shard)) (new.disk (drive_of places shard)).faults
  pub reported : (shard : ℕ) → shard < SEGMENT_SHARDS → is_in drives (place_of places shard).slot ≡ false → (is_missing_in missing places shard ≡ false) × ((new.disk (drive_of places shard)).faults ≡ faults (drive_of places shard))

-- no facts stand as the patch, or one of its segments is lost, or memory ran out
abbrev pub IsFaultOf : Shelved → Shelved → Patch → List Bool → PatchFault → Type 0
IsFaultOf old new p missing Bad = old.honest → (view : View) (facts : List AnyFact) → ShowsPatch old p missing view → ¬ PatchStands view p facts
IsFaultOf old new p missing (Lost lost) = (part : ℕ) × (part < length p.segments) × AreLostSince old new (places_of_part p part) missing lost.drives
IsFaultOf old new p missing (Memory m) = Unit {0}

-- a device that has no unit of the patch stays as it was
abbrev pub OthersStayOfPatch : Patch → Shelved → Shelved → Type 0
OthersStayOfPatch p old new = (device : Device) → ((part shard : ℕ) → part < length p.segments → shard < SEGMENT_SHARDS → device ≢ drive_of (places_of_part p part) shard) → new.disk device ≡ old.disk device
