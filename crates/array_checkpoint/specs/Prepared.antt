-- What a checkpoint writes and stores, once all memory is taken for it.
use Rattle.std.specs.Prelude.{◌≡◌, ◌+◌, ◌≤◌, ◌++◌, List, length}
use Rattle.session_spec.specs.Prelude.{Place, facts}
use Rattle.array_memory.specs.declared.plan.Counts.{Counts}
use Rattle.array_memory.specs.Prelude.{eliding_by, next_past, units_of, with_patch_rooms, AreCounts, IsPlanOf}
use Rattle.record_tables.specs.Prelude.{added_patches, by_tag, segments_of, FitRecord, AreNewUnits, HaveFacts}
use Rattle.array_core.specs.declared.array.Array.{Array}
use Rattle.array_checkpoint.specs.declared.preparing.Prepared.{Prepared}
use Rattle.array_checkpoint.specs.declared.limits.TheConstants.{DATA_SEGMENTS, NEW_PATCHES}

-- the same array, but for room in memory
pub record IsLike (was now : Array) : Type 0 where
  pub register : now.register ≡ was.register
  pub log : now.log ≡ was.log
  pub background : now.background ≡ was.background
  pub memory : now.memory ≡ with_patch_rooms was.memory now.memory
  pub names : was.memory.name_room ≤ now.memory.name_room

-- The plan is one of the array's memory, once its segments are elided. Its new segments and those of its new patches stand on free units, and the tables name them behind those of the record.
pub record IsPreparedFor (a : Array) (p : Prepared) : Type 0 where
  pub plan : IsPlanOf a.memory p.plan
  pub some : HaveFacts p.plan
  pub counts : Counts
  pub counted : AreCounts p.plan counts
  pub fit : FitRecord counts
  -- the units of the new patches
  pub units : List (List Place)
  pub wanted : segments_of counts ≡ length units
  pub free : AreNewUnits a.register.record (facts a.memory.memory.tables) (units_of p.plan ++ units)
  pub added : p.added ≡ added_patches counts a.memory.memory.next.patch_segment units
  pub patches : p.tables.patches ≡ by_tag a.register.record.patches p.added
  pub next : p.tables.next ≡ p.plan.next
  pub next_is : p.plan.next ≡ record (next_past (eliding_by a.memory.memory p.plan.eliding).next (length p.plan.segments.items)) { patch_segment = a.memory.memory.next.patch_segment + length units }
  pub flushed : p.tables.flushed ≡ a.register.record.flushed + a.log.count
  pub few_data : length p.plan.segments.items ≤ DATA_SEGMENTS
  pub few_patches : length units ≤ NEW_PATCHES
