-- A command is logged.
use Rattle.std.specs.Prelude.{◌≡◌, ◌+◌, ◌++◌, ◌∷◌, List, []}
use Rattle.session_spec.specs.Prelude.{Command, AllAccepted, Geometry, has_risen, Shelved, Contents, facts, MayRise}
use Rattle.nvram_log.specs.Prelude.{Keeps, IsSome}
use Rattle.register.specs.Prelude.{IsLaterRecord, IsRegisterOf, Content}
use Rattle.array_core.specs.declared.array.Array.{Array}
use Rattle.array_core.specs.Changing.{IsOpenOn}
use Rattle.array_core.specs.Drives.{SegmentsHold}
use Rattle.array_core.specs.Holding.{NoneJoins}

-- the array is open with the log that memory keeps, and accepts the command behind it
pub record MayLog (shelf : Shelved) (a : Array) (held : Content) (c : Command) : Type 0 where
  pub is_open : IsOpenOn shelf a.register a.log held held.log
  pub keeps : Keeps a.log held.log
  pub accepted : AllAccepted held.base (held.log ++ c ∷ [])

-- Whatever the result, memory is as it was, and the register one of the shelf, by a later record of the same tables, on which the log goes on.
pub record StaysUnapplied (size : Geometry) (was now : Array) : Type 0 where
  pub memory : now.memory ≡ was.memory
  pub background : now.background ≡ was.background
  pub of_shelf : IsRegisterOf size now.register
  pub flushed : now.log.flushed ≡ now.register.record.flushed
  pub later : IsLaterRecord was.register.record now.register.record

-- The log has the command, on one device or more. A record is stored only where a device lost a write, and none has joined. What segments hold stands on the drives that are left, which are enough.
pub record HasAppended (old new : Shelved) (was now : Array) (c : Command) : Type 0 where
  pub some : IsSome now.log.members
  pub count : now.log.count ≡ was.log.count + 1
  pub keeps : (commands : List Command) → Keeps was.log commands → Keeps now.log (commands ++ c ∷ [])
  pub boot : MayRise (λ d. has_risen (old.disk d).write_faults (new.disk d).write_faults) was.register.record now.register.record
  pub joins : NoneJoins was now
  pub segments : old.honest → (contents : Contents) → SegmentsHold contents old was.register (facts was.memory.memory.tables) → SegmentsHold contents new now.register (facts was.memory.memory.tables)
