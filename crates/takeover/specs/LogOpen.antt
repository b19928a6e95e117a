-- The log that was read, settled and replayed.
use Rattle.std.specs.Prelude.{◌≡◌, ℕ, ◌<◌, Bool, true, List, Contains, Result, Ok, Err, ⊤}
use Rattle.session_spec.specs.Prelude.{Command, AllAccepted, after_all, Conditions, Sound, LeftOut, IsBearable, IsWithin, drive, nvram, Array, AnyFact, names, Rises, geometry_of, Shelved}
use Rattle.boot_region.specs.declared.loading.Loaded.{Loaded}
use Rattle.nvram_log.specs.Prelude.{DroppedCounted, HasRead, HoldsOn, IsMember, IsSome, IsFewer}
use Rattle.takeover.specs.Found.{IsFoundOn}
use Rattle.takeover.specs.Tables.{HoldTables}
use Rattle.takeover.specs.declared.log.OpenedLog.{OpenedLog}
use Rattle.takeover.specs.declared.log.LogFault.{LogFault}
use Rattle.takeover.specs.declared.log.LogFault.TheVariants as log_fault

-- Of the members some are left, and none joins. One leaves only where a call on it failed, and of one that stays the count of failed writes and syncs has not risen.
pub record LeavesSome (old new : Shelved) (was now : List Bool) : Type 0 where
  pub fewer : IsFewer was now
  pub some : IsSome now
  pub counted : DroppedCounted old new was now
  pub unlost : (n : ℕ) → n < 2 → IsMember now n → (new.disk (nvram n)).write_faults ≡ (old.disk (nvram n)).write_faults

-- the tables hold the base still, and each NVRAM device that is left holds the log of memory, which makes one of the arrays of it
pub record IsLogOpen (shelf : Shelved) (x : Loaded) (missing : Conditions) (arrays : List Array) (ps : List (List AnyFact)) (base : Array) (o : OpenedLog) : Type 0 where
  pub found : IsFoundOn shelf x missing arrays
  pub hold : HoldTables shelf x ps base
  pub commands : List Command
  pub has : HasRead o.log commands
  pub flushed : o.log.flushed ≡ x.record.flushed
  pub accepted : AllAccepted base commands
  pub one_of : Contains arrays (after_all base commands)
  pub holds : HoldsOn shelf o.log.members x.record.flushed commands
  pub some : IsSome o.log.members
  pub fewer : IsFewer x.record.members.nvrams o.log.members
  pub sound : (n : ℕ) → n < 2 → missing (nvram n) ≡ Sound → IsMember o.log.members n
  pub left_out : (n : ℕ) → missing (nvram n) ≡ LeftOut → ¬ (IsMember o.log.members n)

-- Later conditions in which no NVRAM device is sound that the record names and that isn't left; drives are as they were.
pub record AreLeft (x : Loaded) (missing : Conditions) (members : List Bool) (later : Conditions) : Type 0 where
  pub within : IsWithin missing later
  pub drives : (i : ℕ) → later (drive i) ≡ missing (drive i)
  pub sound : (n : ℕ) → names x.record (nvram n) ≡ true → later (nvram n) ≡ Sound → IsMember members n

-- in all such conditions that are borne the log was opened
abbrev pub IsLogOpenOn : Shelved → Loaded → Conditions → List Array → List (List AnyFact) → Array → OpenedLog → Type 0
IsLogOpenOn new x missing arrays ps base o = (later : Conditions) → AreLeft x missing o.log.members later → IsBearable (geometry_of new) later → IsLogOpen new x later arrays ps base o

-- why the log isn't opened: memory is wanting, or each device that is named failed
abbrev pub IsLogFault : LogFault → Shelved → Shelved → List Bool → Type 0
IsLogFault (log_fault.Memory m) old new named = ⊤
IsLogFault log_fault.BothLost old new named = (n : ℕ) → n < 2 → IsMember named n → Rises (old.disk (nvram n)).faults (new.disk (nvram n)).faults

-- Where no more is missing than is borne, the log is opened, or memory was wanting.
abbrev pub IsLogOpenBy : Shelved → Loaded → Conditions → List Array → List (List AnyFact) → Array → Result OpenedLog LogFault → Type 0
IsLogOpenBy new x missing arrays ps base (Ok o) = IsLogOpen new x missing arrays ps base o
IsLogOpenBy new x missing arrays ps base (Err (log_fault.Memory m)) = ⊤
IsLogOpenBy new x missing arrays ps base (Err log_fault.BothLost) = ⊥
