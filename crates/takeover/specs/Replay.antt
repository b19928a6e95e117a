-- The commands of a log, applied to memory up to the first that the array refuses.
use Rattle.std.specs.Prelude.{◌≡◌, ℕ, ◌+◌, Bool, true, false, List, take, Some, slice_get}
use Rattle.session_spec.specs.Prelude.{Command, Accepts, AllAccepted, after, after_all, Array, segment, Contents, ReadsAs, HasSameSegmentIds, next_after, next_after_all, facts}
use Rattle.array_memory.specs.Prelude.{Kept, HasSamePatches}
use Rattle.array_core.specs.Prelude.{HasRoomFor, nothing_behind}
use Rattle.nvram_log.specs.declared.read.ReadFault.{ReadFault}
use Rattle.nvram_log.specs.declared.read.ReadFault.TheVariants as read_fault
use Rattle.takeover.specs.declared.log.LogFault.{LogFault}
use Rattle.takeover.specs.declared.log.LogFault.TheVariants as log_fault

-- ---- one command

-- Memory has done the command: each array that it read as accepts it, memory reads as what that makes of the array, and the next numbers are those behind it. No more room is taken than one command may take.
pub record IsDone (was : Kept) (c : Command) (now : Kept) : Type 0 where
  pub reads : (contents : Contents) (a : Array) → ReadsAs contents was.memory a → Accepts a c × ReadsAs contents now.memory (after a c)
  pub patches : HasSamePatches was.memory.tables now.memory.tables
  pub segments : (id : ℕ) → segment (facts now.memory.tables) id ≡ segment (facts was.memory.tables) id
  pub next : (contents : Contents) (a : Array) → ReadsAs contents was.memory a → now.memory.next ≡ next_after a was.memory.next c.request
  pub segment_ids : HasSameSegmentIds was.memory.next now.memory.next
  pub room : (logged : ℕ) → HasRoomFor was logged nothing_behind → HasRoomFor now (logged + 1) nothing_behind

-- an accepted command is done, and one that is refused leaves memory as it was
abbrev pub IsApplied : Kept → Command → Bool → Kept → Type 0
IsApplied was c true now = IsDone was c now
IsApplied was c false now = ((contents : Contents) (a : Array) → ReadsAs contents was.memory a → ¬ (Accepts a c)) × (now ≡ was)

-- ---- a log

-- the first commands are accepted, one after the other, and the next one is refused
pub record IsRun (a : Array) (commands : List Command) (count : ℕ) : Type 0 where
  pub accepted : AllAccepted a (take count commands)
  pub refused : (c : Command) → slice_get commands count ≡ Some c → ¬ (Accepts (after_all a (take count commands)) c)

-- Memory has done the first commands: so it is for each array that memory read as. The next one is refused.
pub record IsReplayed (was : Kept) (commands : List Command) (count : ℕ) (now : Kept) : Type 0 where
  pub reads : (contents : Contents) (a : Array) → ReadsAs contents was.memory a → IsRun a commands count × ReadsAs contents now.memory (after_all a (take count commands))
  pub patches : HasSamePatches was.memory.tables now.memory.tables
  pub segments : (id : ℕ) → segment (facts now.memory.tables) id ≡ segment (facts was.memory.tables) id
  pub next : (contents : Contents) (a : Array) → ReadsAs contents was.memory a → now.memory.next ≡ next_after_all a was.memory.next (take count commands)
  pub segment_ids : HasSameSegmentIds was.memory.next now.memory.next
  pub room : (logged : ℕ) → HasRoomFor was logged nothing_behind → HasRoomFor now (logged + count) nothing_behind

-- the fault of a log that wasn't read
abbrev pub log_fault_of : ReadFault → LogFault
log_fault_of read_fault.NoMemory = log_fault.Memory (record {})
log_fault_of read_fault.BothLost = log_fault.BothLost
