-- The array in memory, and what the devices hold of it.
use Rattle.std.specs.Prelude.{◌≡◌, ◌≤◌, [], ◌∷◌, ◌++◌, Bool, ◌||◌}
use Rattle.std.specs.List.{AllZip}
use Rattle.session_spec.specs.Prelude.{Command, Geometry, AreSegmentsSound, Shelved, facts, patches, Contents, IsSound, ReadsAs, are_used_up, is_used_up, AreLayered, IsNamed, facts_of}
use Rattle.nvram_log.specs.Prelude.{HoldsOn, Keeps, IsSome}
use Rattle.register.specs.Prelude.{IsRegisterOf, Content, IsOpen, array_of}
use Rattle.table_plan.specs.Prelude.{AreStored}
use Rattle.array_core.specs.declared.array.Array.{Array}
use Rattle.array_core.specs.Drives.{SegmentsHold}
use Rattle.array_core.specs.Room.{HasRoomFor}
use Rattle.array_core.specs.declared.array.TheConstants.{BACKGROUND_FACTS, BACKGROUND_STAGED}

-- Of a shelf of this size: the register is one of it, the log follows on what its record has flushed, and memory is sound, has the record's patches and room for what the log has room for beside what came in without a command, of which there is little. Segments have got no ids but those before the record's next ones.
pub record IsArrayOf (shelf : Geometry) (a : Array) : Type 0 where
  pub of_shelf : IsRegisterOf shelf a.register
  pub flushed : a.log.flushed ≡ a.register.record.flushed
  pub some : IsSome a.log.members
  pub sound : IsSound a.memory.memory
  pub layered : AreLayered a.memory.memory.tables
  pub stored : AreStored (facts_of a.memory.memory.tables.addresses.patches)
  pub named : AllZip IsNamed a.register.record.patches (patches a.memory.memory.tables)
  pub segments : AreSegmentsSound shelf a.register.record (facts a.memory.memory.tables)
  pub room : HasRoomFor a.memory a.log.count a.background
  pub rested : (a.background.facts ≤ BACKGROUND_FACTS) × (a.background.staged ≤ BACKGROUND_STAGED)
  pub segment_ids : a.memory.memory.next.segment ≡ a.register.record.next.segment
  pub patch_ids : a.memory.memory.next.patch_segment ≡ a.register.record.next.patch_segment

-- The record alone is in force, and the devices hold these tables and this log; memory has the same patches, and reads as their array.
pub record IsReady (shelf : Shelved) (a : Array) (held : Content) : Type 0 where
  pub is_open : IsOpen shelf a.register a.log.members held
  pub held_log : HoldsOn shelf a.log.members a.log.flushed held.log
  pub keeps : Keeps a.log held.log
  pub flushed : a.log.flushed ≡ a.register.record.flushed
  pub some : IsSome a.log.members
  pub patches_are : held.patches ≡ patches a.memory.memory.tables
  pub contents : Contents
  pub reads : ReadsAs contents a.memory.memory (array_of held)
  pub hold : SegmentsHold contents shelf a.register (facts a.memory.memory.tables)

-- the same tables, with one command more in the log
abbrev pub logged : Content → Command → Content
logged held c = record held { log = held.log ++ c ∷ [] }

-- too few generations, numbers of commands, or ids and sequence numbers are left
abbrev pub is_spent : Array → Bool
is_spent a = is_used_up a.register.record.generation || is_used_up a.register.record.flushed || are_used_up a.memory.memory.next
