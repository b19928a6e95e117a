-- What a change of the record or of the log leaves: which record and which devices, who holds the array, and what is open then.
use Rattle.std.specs.Prelude.{◌≡◌, ◌⊎◌, ◌+◌, ◌≤◌, ℕ, Bool, true, List, Result, OnOk, OnErr}
use Rattle.session_spec.specs.Prelude.{Command, Geometry, Device, drive, BootRecord, set_count, names, Shelved, LeavesOnly}
use Rattle.pur_base.specs.Plain as plain
use Rattle.boot_region.specs.Prelude.{IsMember, DroppedFailed, LostWrites}
use Rattle.nvram_log.specs.declared.log.NvLog.{NvLog}
use Rattle.nvram_log.specs.Prelude.{HoldsOn}
use Rattle.nvram_log.specs.Members as nv
use Rattle.register.specs.declared.state.Register.{Register}
use Rattle.register.specs.Prelude.{IsLaterRecord, IsRegisterOf, drives_of, Content, IsOpen}
use Rattle.array_core.specs.Holding.{DropsFailedBy, IsHolderBy}
use Rattle.array_core.specs.Performing.{IsKeptAt, IsLostBy}

-- ---- which devices and which record

-- The register is one of the shelf still, so many generations on at most. Its drives are of those before, without the lost ones, and the log's devices are of those before.
pub record LeavesFewer (size : Geometry) (lost : List Bool) (most : ℕ) (was now : Register) (members left : List Bool) : Type 0 where
  pub of_shelf : IsRegisterOf size now
  pub few : now.record.generation ≤ was.record.generation + most
  pub fewer : (i : ℕ) → IsMember now.drives i → IsMember was.drives i × ¬ (IsMember lost i)
  pub fewer_logs : nv.IsFewer members left

-- The record is a later one of the same tables. After Ok it names no device that was neither named nor a holder; and where its drives were those that it names, and enough, they are so still; so are its devices of the log.
pub record KeepsTables {T E : Type 0} (result : Result T E) (was now : Register) (members left : List Bool) : Type 0 where
  pub later : IsLaterRecord was.record now.record
  pub named : OnOk result ((d : Device) → names now.record d ≡ true → (names was.record d ≡ true) ⊎ IsHolderBy was members d)
  pub drives : OnOk result (was.record.members.drives ≡ was.drives → now.record.members.drives ≡ now.drives)
  pub nvrams : OnOk result (was.record.members.nvrams ≡ members → now.record.members.nvrams ≡ left)
  pub enough : OnOk result (was.record.slots ≤ set_count was.drives + 2 → now.record.slots ≤ set_count now.drives + 2)

-- Of the drives of the record one is called lost, or left, or it lost a write meanwhile; none that is left did.
pub record AreLeft (old new : Shelved) (was now : Register) (lost : List Bool) : Type 0 where
  pub dropped : (i : ℕ) → IsMember (drives_of was) i → IsMember lost i ⊎ (IsMember (drives_of now) i ⊎ LostWrites (old.disk (drive i)) (new.disk (drive i)))
  pub unlost : (i : ℕ) → IsMember (drives_of now) i → (new.disk (drive i)).write_faults ≡ (old.disk (drive i)).write_faults

-- ---- who holds the array

-- A holder is one still, or a write or a sync on it failed, and on none that still is. It ends with an error only where more devices failed than are borne.
pub record OnlyFaults {T E : Type 0} (result : Result T E) (old new : Shelved) (was now : Register) (members left : List Bool) : Type 0 where
  pub holders : DropsFailedBy old new was members now left
  pub drives : DroppedFailed old new (drives_of was) (drives_of now)
  pub lost : OnErr result (IsLostBy old new was members)

-- ---- what is open

-- the array is open, and its log holds these commands
pub record IsOpenOn (shelf : Shelved) (r : Register) (log : NvLog) (held : Content) (commands : List Command) : Type 0 where
  pub is_open : IsOpen shelf r log.members held
  pub held_log : HoldsOn shelf log.members log.flushed commands

-- After Ok the array is open so. At every moment a session can go on with one of these arrays, by what failed since the start.
pub record StaysOpen {T E : Type 0} (result : Result T E) (start old new : Shelved) (boot : BootRecord) (arrays : List plain.Array) (r : Register) (log : NvLog) (held : Content) (commands : List Command) : Type 0 where
  pub opens : OnOk result (IsOpenOn new r log held commands)
  pub any_moment : LeavesOnly old new (IsKeptAt start boot arrays)
