-- What a merge writes and stores, once all memory is taken for it, and what stands then.
use Rattle.std.specs.Prelude.{◌≡◌, ℕ, ◌+◌, ◌<◌, ◌≤◌, ◌^◌, Bool, true, List, length, Some, slice_get}
use Rattle.session_spec.specs.Prelude.{tag_of, Place, NUMBER_LIMIT, facts, patches, Memory, AreJoined, has_pair, pair_segments, place_in, View, AnyFact, Patch, PatchStands, Shelved, Stop, MayStop}
use Rattle.segment_writer.specs.Prelude.{MayBeStored, MayBeHeaded}
use Rattle.segment_writer.specs.PatchStoring.{ShowsMostOf}
use Rattle.register.specs.Prelude.{Content}
use Rattle.table_plan.specs.Prelude.{HasMergedFacts, merged_facts, table_of, tables_with, IsMergedOf}
use Rattle.record_tables.specs.Prelude.{new_patch, segments_for, AreNewUnits}
use Rattle.array_core.specs.declared.array.Array.{Array}
use Rattle.pyramid_jobs.specs.declared.preparing.Prepared.{Prepared}

-- The one patch is made of its table's at that index and behind it. Its segments stand on free units, and the record's tables name it in the place of the two, by ids that are given next.
pub record IsPreparedFor (i : ℕ) (a : Array) (p : Prepared) : Type 0 where
  pub merged : IsMergedOf a.memory.memory i p.merged
  pub some : HasMergedFacts p.merged
  pub there : has_pair (table_of p.merged) i a.register.record.patches ≡ true
  -- the units of its segments
  pub units : List (List Place)
  pub wanted : segments_for (length (merged_facts p.merged)) ≡ length units
  pub count : p.segments ≡ length units
  pub fits : length (merged_facts p.merged) < 2 ^ 32
  pub few : length units ≤ pair_segments (table_of p.merged) i a.register.record.patches
  pub free : AreNewUnits a.register.record (facts a.memory.memory.tables) units
  pub ids : a.register.record.next.patch_segment + length units < NUMBER_LIMIT
  pub added : p.added ≡ new_patch (tag_of (table_of p.merged)) (length (merged_facts p.merged)) a.register.record.next.patch_segment units
  pub patches : AreJoined (place_in (table_of p.merged) i a.register.record.patches) a.register.record.patches p.added p.tables.patches
  pub next : p.tables.next ≡ record a.register.record.next { patch_segment = a.register.record.next.patch_segment + length units }
  pub flushed : p.tables.flushed ≡ a.register.record.flushed

-- what the devices hold by its tables: the same base, and the same log
abbrev pub held_after : Memory → ℕ → Prepared → Content → Content
held_after m i p held = record held { patches = patches (tables_with m.tables i p.merged) }

-- ---- the one patch, or none

-- the patch, where the list has one
abbrev pub IsOne : List Patch → Patch → Type 0
IsOne added p = slice_get added 0 ≡ Some p

-- it may be written with these facts
pub record OneMayBeWritten (shelf : Shelved) (added : List Patch) (facts : List AnyFact) : Type 0 where
  pub each : (p : Patch) → IsOne added p → MayBeStored shelf p facts × MayBeHeaded shelf p

-- the facts of a patch stand, whatever stop comes and whichever drives are missing, up to two of the nine of each segment
abbrev pub FactsStand : Shelved → Patch → List Bool → List AnyFact → Type 0
FactsStand shelf p lost facts = (stop : Stop) (view : View) → MayStop shelf stop → ShowsMostOf stop.image p lost view → PatchStands view p facts

-- so do those of the one patch
pub record OneStands (shelf : Shelved) (added : List Patch) (lost : List Bool) (facts : List AnyFact) : Type 0 where
  pub each : (p : Patch) → IsOne added p → FactsStand shelf p lost facts
