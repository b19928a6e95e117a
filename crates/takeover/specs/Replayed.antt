-- The log that the NVRAM devices showed, and what memory made of it.
use Rattle.std.specs.Prelude.{◌≡◌, ℕ, Bool, List}
use Rattle.session_spec.specs.Prelude.{Command, AllAccepted, after_all, Array, segment, LogStands, Contents, ReadsAs, HasSameSegmentIds, next_after_all, facts, AreLayered, Shelved}
use Rattle.nvram_log.specs.Prelude.{HasRead, shown_by, IsFewer, DroppedCounted}
use Rattle.array_memory.specs.Prelude.{Kept, HasSamePatches}
use Rattle.array_core.specs.Prelude.{HasRoomFor, nothing_behind}
use Rattle.takeover.specs.declared.log.OpenedLog.{OpenedLog}

-- Memory has done the commands of the log, which are accepted: so it is for each array that memory read as.
pub record HasReplayed (was : Kept) (o : OpenedLog) : Type 0 where
  pub log : List Command
  pub has : HasRead o.log log
  pub reads : (contents : Contents) (a : Array) → ReadsAs contents was.memory a → AllAccepted a log × ReadsAs contents o.memory.memory (after_all a log)
  pub patches : HasSamePatches was.memory.tables o.memory.memory.tables
  pub segments : (id : ℕ) → segment (facts o.memory.memory.tables) id ≡ segment (facts was.memory.tables) id
  pub layered : AreLayered o.memory.memory.tables
  pub next : (contents : Contents) (a : Array) → ReadsAs contents was.memory a → o.memory.memory.next ≡ next_after_all a was.memory.next log
  pub segment_ids : HasSameSegmentIds was.memory.next o.memory.memory.next
  pub room : HasRoomFor was 0 nothing_behind → HasRoomFor o.memory o.log.count nothing_behind

-- The members that were read showed the log of memory, from each array that it read as. Each one that was named and wasn't read failed, and so did each that isn't left.
pub record IsReplayedFrom (old new : Shelved) (nvrams : List Bool) (flushed : ℕ) (was : Kept) (o : OpenedLog) : Type 0 where
  pub read : List Bool
  pub named : IsFewer nvrams read
  pub left : IsFewer read o.log.members
  pub log : List Command
  pub has : HasRead o.log log
  pub log_stands : (contents : Contents) (a : Array) → ReadsAs contents was.memory a → LogStands (shown_by old read) flushed a log
  pub unread : DroppedCounted old new nvrams read
  pub dropped : DroppedCounted old new nvrams o.log.members
