-- What the steps of an opening leave: the record is found, its tables are loaded, and the log is opened.
use Rattle.std.specs.Prelude.{◌≡◌, ◌<◌, ◌≤◌, ◌+◌, ℕ, Bool, List, Some, None, Result, IfOk}
use Rattle.session_spec.specs.Prelude.{Conditions, IsBearable, drive, Array, AnyFact, BootRecord, set_count, BootSlot, shown_by, spelling, patches, geometry_of, Shelved, LeavesOnly, Enters, StandsStill, failed_since}
use Rattle.boot_region.specs.declared.loading.Loaded.{Loaded}
use Rattle.boot_region.specs.Prelude.{IsLawfulLoad, IsMember, slot_in, StandsAgain}
use Rattle.nvram_log.specs.Prelude.{IsFewer, IsSome}
use Rattle.array_memory.specs.Prelude.{Kept}
use Rattle.array_core.specs.Prelude.{StandsOnceBack}
use Rattle.takeover.specs.Found.{AreCounted, IsFoundOn}
use Rattle.takeover.specs.LogOpen.{IsLogOpenBy, IsLogOpenOn}
use Rattle.takeover.specs.Opened.{AreClean}
use Rattle.takeover.specs.Outlasting.{AreSoundLogs, EntersFirmly, IsFoundFirmly}
use Rattle.takeover.specs.Replayed.{HasReplayed}
use Rattle.takeover.specs.Tables.{HasTables}
use Rattle.takeover.specs.declared.log.LogFault.{LogFault}
use Rattle.takeover.specs.declared.log.OpenedLog.{OpenedLog}
use Rattle.takeover.specs.declared.tables.FoundArray.{FoundArray}

-- where nothing was dirty on devices that weren't missing, nothing is on those that aren't now
abbrev pub StaysClean : Shelved → Shelved → Type 0
StaysClean old new = (missing : Conditions) → AreClean old missing → AreClean new (failed_since old new missing)

-- While the record and its tables are found the devices stand for the arrays for which they stood, and nothing is stored; in the end nothing is dirty on those that aren't missing.
-- Whatever fails, where no store was unfinished at the entry, they do so at every moment once they answer again with what they hold.
pub record StandsWhileFinding (old new : Shelved) : Type 0 where
  pub any_moment : (missing : Conditions) (arrays : List Array) → Enters old missing arrays → LeavesOnly old new (StandsStill old None missing arrays)
  pub clean : StaysClean old new
  pub again : (missing : Conditions) (next : BootSlot) (boot : BootRecord) (arrays : List Array) → Enters old missing arrays → EntersFirmly old missing next boot
      → LeavesOnly old new (StandsAgain old missing arrays)

-- A record of the shelf is loaded. The drives that are left show it, whatever is missing, the count of failed writes and syncs has risen on none of them, and at most two of the shelf's aren't among them.
-- Whatever fails, where no store was unfinished at the entry, it was found on drives that were sound.
pub record IsRecordFound (old new : Shelved) (x : Loaded) : Type 0 where
  pub lawful : IsLawfulLoad (geometry_of new) x
  pub enough : new.drives ≤ set_count x.drives + 2
  pub unlost : (i : ℕ) → i < new.drives → IsMember x.drives i → (new.disk (drive i)).write_faults ≡ (old.disk (drive i)).write_faults
  pub shown : old.honest → (i : ℕ) → IsMember x.drives i → shown_by (slot_in x.slot) (new.disk (drive i)).bytes ≡ Some (spelling x.record)
  pub firmly : old.honest → (missing : Conditions) (next : BootSlot) (boot : BootRecord) (arrays : List Array) → Enters old missing arrays → EntersFirmly old missing next boot
      → IsFoundFirmly new x missing arrays

-- Where no more is missing than is borne the drives hold the record, and wherever they do they hold the tables, and memory reads as these.
pub record AreTablesFound (old new : Shelved) (f : FoundArray) : Type 0 where
  pub found : (missing : Conditions) (arrays : List Array) → Enters old missing arrays → IsBearable (geometry_of old) (failed_since old new missing)
      → IsFoundOn new f.loaded (failed_since old new missing) arrays
  pub tables : (missing : Conditions) (arrays : List Array) → IsFoundOn new f.loaded missing arrays
      → (base : Array) × HasTables new f.loaded f.memory (patches f.memory.memory.tables) base

-- The log goes on behind the commands that were flushed, on some of the devices that were named, and memory has done the commands that are left of it.
pub record IsLogLeft (nvrams : List Bool) (flushed : ℕ) (was : Kept) (o : OpenedLog) : Type 0 where
  pub follows : o.log.flushed ≡ flushed
  pub fewer : IsFewer nvrams o.log.members
  pub some : IsSome o.log.members
  pub done : HasReplayed was o

-- While the log of a record that was found is opened, the devices stand for the arrays for which they stood, and nothing is stored.
-- Whatever has failed, where none of the record's NVRAM devices was missing, they do so at every moment once they answer again with what they hold.
pub record OpensLog (old new : Shelved) (x : Loaded) (missing : Conditions) (arrays : List Array) (ps : List (List AnyFact)) (base : Array) (result : Result OpenedLog LogFault) : Type 0 where
  pub any_moment : LeavesOnly old new (StandsStill old None missing arrays)
  pub once_back : AreSoundLogs x.record missing → LeavesOnly old new (StandsOnceBack old missing arrays)
  -- where no more is missing than is borne it is opened
  pub opened : AreCounted old missing → IsBearable (geometry_of old) (failed_since old new missing) → IsLogOpenBy new x (failed_since old new missing) arrays ps base result
  -- once it is, it is so in all borne conditions in which no NVRAM device is sound that isn't left
  pub opened_on : IfOk result (IsLogOpenOn new x missing arrays ps base)
