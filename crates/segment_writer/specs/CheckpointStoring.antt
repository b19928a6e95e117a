-- Patches that are written together, and with data segments.
use Rattle.std.specs.Prelude.{◌≡◌, ◌≢◌, ◌⊎◌, ℕ, ◌+◌, ◌<◌, ◌≤◌, true, Bool, List, [], length, Some, slice_get, Vec}
use Rattle.std.specs.List.{AllZip}
use Rattle.std.specs.Vec.{vec_capacity}
use Rattle.std.specs.declared.alloc.Global.{Global}
use Rattle.array_spec.specs.Prelude.{Image, Device, SegmentFact, SEGMENT_SHARDS, Patch, STRIPES, places_of_part}
use Rattle.world.specs.Prelude.{Shelved}
use Rattle.segment_io.specs.declared.open.Open.{Open}
use Rattle.segment_io.specs.Prelude.{is_in, place_of}
use Rattle.segment_writer.specs.Layout.{AreAllOpen}
use Rattle.segment_writer.specs.PatchStoring.{MayBeStored, MayBeHeaded, HoldsPatch, IsOnPatch, OnPatch, layout_of_patch}
use Rattle.segment_writer.specs.DataPlacing.{places_in}
use Rattle.segment_writer.specs.DataStoring.{IsOnData, OnData}
use Rattle.array_memory.specs.declared.plan.Plan.{Plan}
use Rattle.segment_writer.specs.CheckpointPlanned.{new_facts, facts_of_tag}

-- ---- what may be written

-- no unit stands in segments of both patches
abbrev pub LieApart : Patch → Patch → Type 0
LieApart p q = (part other j k : ℕ) → part < length p.segments → other < length q.segments → j < SEGMENT_SHARDS → k < SEGMENT_SHARDS
    → (place_of (places_of_part p part) j).slot ≡ (place_of (places_of_part q other) k).slot → (place_of (places_of_part p part) j).unit ≢ (place_of (places_of_part q other) k).unit

-- nor of any two of them
abbrev pub AreAllApart : List Patch → Type 0
AreAllApart ps = (i j : ℕ) (p q : Patch) → i ≢ j → slice_get ps i ≡ Some p → slice_get ps j ≡ Some q → LieApart p q

-- no unit stands in a data segment and in a segment of the patch
abbrev pub LieApartOf : List SegmentFact → Patch → Type 0
LieApartOf segments p = (number part j k : ℕ) → number < length segments → part < length p.segments → j < SEGMENT_SHARDS → k < SEGMENT_SHARDS
    → (place_of (places_in segments number) j).slot ≡ (place_of (places_of_part p part) k).slot → (place_of (places_in segments number) j).unit ≢ (place_of (places_of_part p part) k).unit

-- lawful patches for the plan's new facts, on units of their own
pub record MayBeStoredWith (shelf : Shelved) (plan : Plan) (ps : List Patch) : Type 0 where
  pub each : AllZip (λ p facts. MayBeStored shelf p facts × MayBeHeaded shelf p) ps (new_facts plan)
  pub apart : AreAllApart ps
  pub apart_of_data : (i : ℕ) (p : Patch) → slice_get ps i ≡ Some p → LieApartOf plan.segments.items p

-- and so, each for the facts of its table
pub record MayStandFor (shelf : Shelved) (plan : Plan) (ps : List Patch) : Type 0 where
  pub stored : (i : ℕ) (p : Patch) → slice_get ps i ≡ Some p → MayBeStored shelf p (facts_of_tag plan p.tag)
  pub headed : (i : ℕ) (p : Patch) → slice_get ps i ≡ Some p → MayBeHeaded shelf p
  pub apart : AreAllApart ps

-- ---- open segments

-- a list for each patch, with room for its segments
pub record HaveRoomFor (ps : List Patch) (lists : List (Vec Open Global)) : Type 0 where
  pub count : length lists ≡ length ps
  pub none : (i : ℕ) (p : Patch) (list : Vec Open Global) → slice_get ps i ≡ Some p → slice_get lists i ≡ Some list → list.items ≡ []
  pub room : (i : ℕ) (p : Patch) (list : Vec Open Global) → slice_get ps i ≡ Some p → slice_get lists i ≡ Some list → length p.segments ≤ vec_capacity list

-- the list holds the patch's segments, to which its facts were appended
abbrev pub IsOpenListOf : Patch → List Bool → List Open → Type 0
IsOpenListOf p lost list = AreAllOpen (layout_of_patch p 0) lost list

-- a list for each patch, with its open segments
pub record AreOpenLists (ps : List Patch) (lost : List Bool) (lists : List (Vec Open Global)) : Type 0 where
  pub count : length lists ≡ length ps
  pub each : (i : ℕ) (p : Patch) (list : Vec Open Global) → slice_get ps i ≡ Some p → slice_get lists i ≡ Some list → IsOpenListOf p lost list.items

-- ---- what is written

-- the facts of each patch stand in it, but for its lost drives
abbrev pub HoldPatches : Image → Plan → List Patch → List Bool → Type 0
HoldPatches image plan ps lost = (i : ℕ) (p : Patch) → slice_get ps i ≡ Some p → HoldsPatch image p lost (facts_of_tag plan p.tag)

-- so many write units from the n-th on, in each unit of the patches
abbrev pub OnPatches : List Patch → ℕ → ℕ → Device → ℕ → Type 0
OnPatches ps n count device i = (index : ℕ) × (p : Patch) × (slice_get ps index ≡ Some p) × OnPatch p n count device i

-- all write units of the data segments and of the patches
abbrev pub OnCheckpoint : List SegmentFact → List Patch → Device → ℕ → Type 0
OnCheckpoint segments ps device i = OnData segments 0 (STRIPES + 1) device i ⊎ OnPatches ps 0 (STRIPES + 1) device i

-- it is the drive of a unit of the patches
abbrev pub IsOnPatches : List Patch → Device → Type 0
IsOnPatches ps device = (index : ℕ) × (p : Patch) × (slice_get ps index ≡ Some p) × IsOnPatch p device

-- or of the data segments
abbrev pub IsOnCheckpoint : List SegmentFact → List Patch → Device → Type 0
IsOnCheckpoint segments ps device = IsOnData segments device ⊎ IsOnPatches ps device

-- ---- drives

-- each unit of the patches is on a drive of the set
abbrev pub HoldDrivesOf : List Patch → List Bool → Type 0
HoldDrivesOf ps drives = (index part shard : ℕ) (p : Patch) → slice_get ps index ≡ Some p → part < length p.segments → shard < SEGMENT_SHARDS → is_in drives (place_of (places_of_part p part) shard).slot ≡ true

-- a unit of the patches is on the drive of that slot
abbrev pub IsSlotOf : List Patch → ℕ → Type 0
IsSlotOf ps slot = (index part shard : ℕ) × (p : Patch) × (slice_get ps index ≡ Some p) × (part < length p.segments) × (shard < SEGMENT_SHARDS) × (slot ≡ (place_of (places_of_part p part) shard).slot)
