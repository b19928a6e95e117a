-- What a merge of two patches makes of memory.
use Rattle.std.specs.Prelude.{◌≡◌, ℕ, ◌+◌, ◌<◌, ◌≤◌, Bool, ◌&&◌, ◌==◌, nat_lt, List, ◌∷◌, ◌++◌, length, take, drop, filter, count_by, Option, All}
use Rattle.std.specs.List.{AllZip}
use Rattle.array_spec.specs.Prelude.{Geometry, View, Array, tag_of, is_elided, Table, AnyFact, AreNext, BootRecord, IsFact, BaseStands, TablesStand, AreSound, AreSegmentsSound, PatchesStand, all_facts, in_patches, patch_segments, Patch}
use Rattle.pur_base.specs.declared.request.Table.TheVariants as table
use Rattle.pyramid.specs.Prelude.{Layers, IsMerged, patch_at, patch_facts, patches_of}
use Rattle.memory_spec.specs.Tables.{Tables, FactOf, kind_of, layers_of, flushed, patches}
use Rattle.memory_spec.specs.Memory.{Memory, IsSound}
use Rattle.memory_spec.specs.Whole.{AreLayered, IsNamed}
pub use Rattle.memory_spec.specs.Flushing.{HaveShrunk}
use Rattle.memory_spec.specs.Flushing.{IsShrunk}

-- what elisions of patches elide, but not others, which stand in the log alone; elisions are of no elided table
abbrev pub elided_by : Tables → Table → ℕ → Bool
elided_by ts t id = nat_lt (tag_of t) (tag_of table.Elision) && is_elided (flushed ts).elisions t id

-- The table's patches at that index and behind it make this one, or none where no fact is left. Facts are left out that are elided.
abbrev pub IsMadeOfTwo : Tables → (t : Table) → ℕ → Option (List (FactOf t)) → Type 0
IsMadeOfTwo ts t i patch = (i + 1 < length (layers_of t ts).patches)
    × IsMerged (kind_of t).key (kind_of t).number (kind_of t).empty (kind_of t).within (i == 0) (elided_by ts t) (patch_at (layers_of t ts) i) (patch_at (layers_of t ts) (i + 1)) (patch_facts patch)

-- the layers with the patch in the place of the two
abbrev pub with_merged : {F : Type 0} → Layers F → ℕ → Option (List F) → Layers F
with_merged l i patch = record l { patches = take i l.patches ++ (patches_of patch ++ drop (i + 2) l.patches) }

-- the tables with it
abbrev pub with_patch : Tables → (t : Table) → ℕ → Option (List (FactOf t)) → Tables
with_patch ts table.Object i patch = record ts { objects = with_merged ts.objects i patch }
with_patch ts table.Medium i patch = record ts { mediums = with_merged ts.mediums i patch }
with_patch ts table.Address i patch = record ts { addresses = with_merged ts.addresses i patch }
with_patch ts table.Segment i patch = record ts { segments = with_merged ts.segments i patch }
with_patch ts table.Elision i patch = record ts { elisions = with_merged ts.elisions i patch }

-- The patches of a table at that index and behind it stand as one.
abbrev pub IsMergedAt : Table → ℕ → Memory → Memory → Type 0
IsMergedAt t i was now = (patch : Option (List (FactOf t))) × IsMadeOfTwo was.tables t i patch × (now ≡ record was { tables = with_patch was.tables t i patch })

-- A merge of sound memory only leaves out facts.
abbrev pub MergeShrinks : Type 0
MergeShrinks = (t : Table) (i : ℕ) (was now : Memory) → IsSound was → AreLayered was.tables → IsMergedAt t i was now → IsShrunk was now

-- The patches of sound memory only lose facts by a merge, and say the same, whatever elisions are unflushed beside them.
abbrev pub MergedPatchesShrink : Type 0
MergedPatchesShrink = (t : Table) (i : ℕ) (was now : Memory) → IsSound was → AreLayered was.tables
    → IsMergedAt t i was now → HaveShrunk (all_facts (patches was.tables)) (all_facts (patches now.tables))

-- Where they were sound by their record, they are by one that names them and gives the same numbers next, but for ids of segments of patches.
abbrev pub MergedPatchesAreSound : Type 0
MergedPatchesAreSound = (shelf : Geometry) (boot next : BootRecord) (t : Table) (i : ℕ) (was now : Memory)
    → AreLayered was.tables → IsMergedAt t i was now
    → AreSound shelf boot (patches was.tables) → All IsFact (in_patches (patches was.tables))
    → AreNext next.next → next.next ≡ record boot.next { patch_segment = next.next.patch_segment }
    → AllZip IsNamed next.patches (patches now.tables) → AreSegmentsSound shelf next (all_facts (patches now.tables))
    → AreSound shelf next (patches now.tables)

-- Where tables held an array on members, others that say the same and stand there hold it.
abbrev pub MergedPatchesHold : Type 0
MergedPatchesHold = (shelf : Geometry) (members : View) (boot next : BootRecord) (old new : List (List AnyFact)) (base : Array)
    → TablesStand shelf members boot old → BaseStands members (all_facts old) boot.next.object base
    → HaveShrunk (all_facts old) (all_facts new) → next.next.object ≡ boot.next.object
    → AreSound shelf next new → PatchesStand members next new
    → TablesStand shelf members next new × BaseStands members (all_facts new) next.next.object base

-- ---- the patches of a table that a record names

-- those of the table, the oldest first
abbrev pub of_table : Table → List Patch → List Patch
of_table t ps = filter (λ p. p.tag == tag_of t) ps

-- whether it has one of that index, and one behind it
abbrev pub has_pair : Table → ℕ → List Patch → Bool
has_pair t i ps = nat_lt (i + 1) (length (of_table t ps))

-- how many segments the two have
abbrev pub pair_segments : Table → ℕ → List Patch → ℕ
pair_segments t i ps = patch_segments (take 2 (drop i (of_table t ps)))

-- where the one of that index stands among those of all tables
abbrev pub place_in : Table → ℕ → List Patch → ℕ
place_in t i ps = count_by (λ p. nat_lt p.tag (tag_of t)) ps + i

-- ---- what is told of lists

-- two neighbours of a list, the first of them at that place, stand as one, or as none
pub record AreJoined {A : Type 0} (at : ℕ) (was joined now : List A) : Type 0 where
  pub front : List A
  pub older : A
  pub newer : A
  pub back : List A
  pub place : length front ≡ at
  pub was_is : was ≡ front ++ (older ∷ newer ∷ back)
  pub few : length joined ≤ 1
  pub now_is : now ≡ front ++ (joined ++ back)
