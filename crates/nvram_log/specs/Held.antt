-- The log that the member devices hold, and the one in memory.
use Rattle.std.specs.Prelude.{◌≡◌, ℕ, ◌<◌, Bool, false, List, [], length, Some, slice_index_or, None, if◌then◌else◌}
use Rattle.world.specs.Prelude.{nvram, View, Command, Drive, Nv, Shelved, Stop}
use Rattle.nvram_log.specs.declared.log.NvLog.{NvLog}
use Rattle.nvram_log.specs.Logged.{AreRead}
use Rattle.nvram_log.specs.Members.{IsMember}
use Rattle.nvram_log.specs.Slots.{IsBetween, IsLog}

-- the log counts these commands
pub record Keeps (log : NvLog) (commands : List Command) : Type 0 where
  pub count : length commands ≡ log.count

-- it was read, and has them in memory
pub record HasRead (log : NvLog) (commands : List Command) : Type 0 where
  pub count : length commands ≡ log.count
  pub each : AreRead log.records.items log.flushed commands

-- each member holds the commands, and nothing is dirty on it
pub record HoldsOn (shelf : Shelved) (members : List Bool) (flushed : ℕ) (commands : List Command) : Type 0 where
  pub log : (n : ℕ) → n < 2 → IsMember members n → IsLog (shelf.disk (nvram n)).bytes flushed commands
  pub clean : (n : ℕ) → n < 2 → IsMember members n → (shelf.disk (nvram n)).dirty ≡ []

-- whatever a stop leaves, each of these devices shows at least the first log, and at most the second
abbrev pub LeavesBetween : List Bool → ℕ → List Command → List Command → Stop → Type 0
LeavesBetween members flushed least most stop = (n : ℕ) → n < 2 → IsMember members n → IsBetween (stop.image (nvram n)) flushed least most

-- what the member devices show a reader
abbrev pub shown_by : Shelved → List Bool → View
shown_by shelf members (Drive d) = None
shown_by shelf members (Nv n) = if slice_index_or members n.0 false then Some (shelf.disk (Nv n)).bytes else None
