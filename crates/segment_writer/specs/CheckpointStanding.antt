-- What stands after a checkpoint was written.
use Rattle.std.specs.Prelude.{◌≡◌, ◌⊎◌, ℕ, ◌<◌, Bool, List, length, Some, slice_get}
use Rattle.array_spec.specs.Prelude.{Image, View, AnyFact, SegmentFact, SEGMENT_SHARDS, Patch, PatchStands, places_of_part}
use Rattle.world.specs.Prelude.{Shelved, Stop}
use Rattle.segment_io.specs.Prelude.{CleanStay}
use Rattle.segment_writer.specs.Layout.{HoldAllHeaders}
use Rattle.segment_writer.specs.PatchStoring.{ShowsMostOf, layout_of_patch}
use Rattle.segment_writer.specs.DataStoring.{layout_of_data, DataComesInTurn}
use Rattle.array_memory.specs.declared.plan.Plan.{Plan}
use Rattle.segment_writer.specs.CheckpointStoring.{HoldPatches}

-- each view in which at most two drives of each segment of a patch are missing shows its facts
abbrev pub FactsStand : Image → List Patch → List Bool → List (List AnyFact) → Type 0
FactsStand image ps lost all = (i : ℕ) (p : Patch) (facts : List AnyFact) → slice_get ps i ≡ Some p → slice_get all i ≡ Some facts
    → (view : View) → ShowsMostOf image p lost view → PatchStands view p facts

-- the header of each segment of the patches stands in its units, but for lost drives
abbrev pub HoldHeaders : Image → List Patch → List Bool → ℕ → Type 0
HoldHeaders image ps lost generation = (i : ℕ) (p : Patch) → slice_get ps i ≡ Some p → HoldAllHeaders image (layout_of_patch p generation) lost

-- so it does in those of the data segments, and of the patches
pub record HaveHeaders (image : Image) (segments : List SegmentFact) (ps : List Patch) (lost : List Bool) (generation : ℕ) : Type 0 where
  pub of_data : HoldAllHeaders image (layout_of_data segments generation) lost
  pub of_patches : HoldHeaders image ps lost generation

-- at a stop no header of a patch is there yet
abbrev pub NoHeaders : Shelved → List Patch → Stop → Type 0
NoHeaders shelf ps stop = (i part shard : ℕ) (p : Patch) → slice_get ps i ≡ Some p → part < length p.segments → shard < SEGMENT_SHARDS → CleanStay shelf (places_of_part p part) shard 0 1 stop

-- or the facts of all patches stand, but for those on lost drives
abbrev pub ComeInTurn : Shelved → Plan → List Patch → List Bool → Stop → Type 0
ComeInTurn shelf plan ps lost stop = NoHeaders shelf ps stop ⊎ HoldPatches stop.image plan ps lost

-- At a stop no header of a data segment is there yet, or the sectors stand; and no header of a patch, or the facts of all patches.
pub record AllInTurn (shelf : Shelved) (plan : Plan) (ps : List Patch) (lost : List Bool) (staged : List (List ℕ)) (stop : Stop) : Type 0 where
  pub of_data : DataComesInTurn shelf plan.segments.items lost staged plan.placing.order.items stop
  pub of_patches : ComeInTurn shelf plan ps lost stop
