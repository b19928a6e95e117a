-- What a checkpoint makes of an array, and of its devices.
use Rattle.std.specs.Prelude.{◌≡◌, ℕ, ◌+◌, ◌*◌, ◌<◌, ◌≤◌, [], length}
use Rattle.pur_base.specs.declared.reply.Refusal.TheVariants as refusals
use Rattle.session_spec.specs.Prelude.{Refusal, Facts, all_facts, patch_segments, Shelved, Contents, Memory, facts, patches, ElidesUnnamed, ElidesUnreached, FactsGoOn, HaveOneMore, HoldAddressed}
use Rattle.register.specs.Prelude.{Content, array_of}
use Rattle.table_plan.specs.Prelude.{extended, sectors_at}
use Rattle.array_memory.specs.declared.plan.Eliding.{Eliding}
use Rattle.array_memory.specs.declared.plan.Plan.{Plan}
use Rattle.array_memory.specs.Prelude.{IsElidingOf, after_plan, next_past}
use Rattle.array_core.specs.declared.array.Array.{Array}
use Rattle.array_core.specs.Prelude.{by_faults, nothing_behind, Halts}
use Rattle.array_checkpoint.specs.declared.limits.TheConstants.{DATA_SEGMENTS, NEW_PATCHES}

-- ---- what is written

-- the tables of memory after the plan
abbrev pub facts_after : Memory → Plan → Facts
facts_after m p = facts (after_plan m p).tables

-- what the devices hold by them: the same array, with nothing in the log
abbrev pub held_after : Memory → Plan → Content → Content
held_after m p held = record { patches = patches (after_plan m p).tables; base = array_of held; log = [] }

-- what segments hold then: the staged sectors that the plan places stand in the new ones
abbrev pub contents_after : Memory → Plan → Contents → Contents
contents_after m p contents = extended contents m.next.segment (sectors_at p.placing.order.items m.staged)

-- ---- what becomes of the array

-- The log is empty, what it held is flushed, and so is what came in without a command. The next record has memory's next numbers, of which few were given, and memory's patches. Three stores write three records each at most.
-- Of the mediums that no object reached those of the lowest ids are elided, each by two facts, and then of the visible segments that no address names those of the lowest ids, each by one; each fact has a number of its own, and the facts of the new segments have the numbers behind.
pub record HasFlushed (was now : Array) : Type 0 where
  pub none : now.log.count ≡ 0
  pub background : now.background ≡ nothing_behind
  pub rises : was.register.record.generation < now.register.record.generation
  pub few : now.register.record.generation ≤ was.register.record.generation + 9
  pub rest : now.register.record ≡ record was.register.record {
    generation = now.register.record.generation;
    members = now.register.record.members;
    patches = now.register.record.patches;
    next = now.memory.memory.next;
    flushed = was.register.record.flushed + was.log.count;
  }
  pub elided : Eliding
  pub lowest : IsElidingOf was.memory elided
  pub elides_mediums : ElidesUnreached (all_facts (patches was.memory.memory.tables)) (all_facts (patches now.memory.memory.tables)) was.memory.memory.next elided.mediums.items
  pub elides : ElidesUnnamed (all_facts (patches was.memory.memory.tables)) (all_facts (patches now.memory.memory.tables)) was.memory.memory.next.segment elided.segments.items
  pub data_segments : ℕ
  pub new_segments : ℕ
  pub few_data : data_segments ≤ DATA_SEGMENTS
  pub few_new : new_segments ≤ NEW_PATCHES
  pub next : now.memory.memory.next ≡ record (next_past (record was.memory.memory.next { sequence = was.memory.memory.next.sequence + (2 * length elided.mediums.items + length elided.segments.items) }) data_segments) { patch_segment = was.memory.memory.next.patch_segment + new_segments }
  pub placed : HoldAddressed (all_facts (patches now.memory.memory.tables)) was.memory.memory.next.segment data_segments
  pub patch_segments_are : patch_segments now.register.record.patches ≡ patch_segments was.register.record.patches + new_segments
  pub one_more : HaveOneMore was.register.record.patches now.register.record.patches
  pub go_on : FactsGoOn (all_facts (patches was.memory.memory.tables)) (all_facts (patches now.memory.memory.tables))

-- why a checkpoint wasn't made: for want of memory, and then all stays as it was, or since more devices failed than are borne, and then the array is to halt
abbrev pub IsFaultOf : Shelved → Shelved → Array → Type 0 → Refusal → Type 0
IsFaultOf old new a stays refusals.Memory = stays
IsFaultOf old new a stays refusals.Device = Halts by_faults old new a []
IsFaultOf old new a stays _ = ⊥
