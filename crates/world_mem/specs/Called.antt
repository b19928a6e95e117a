-- What a call does to a device in memory, and to the record of calls.
use Rattle.std.specs.Prelude.{◌≡◌, ◌≢◌, ◌⊎◌, ◌+◌, ◌<◌, ◌≤◌, ℕ, List, length, Bool, true, Result, IsErr, OnErr}
use Rattle.world.specs.Prelude.{Device, Rises}
use Rattle.world.specs.declared.streams.Failed.{Failed}
use Rattle.world_mem.specs.declared.record.Call.{Call}
use Rattle.world_mem.specs.declared.part.Part.{Part}
use Rattle.world_mem.specs.Parts.{disk_of, disks_of, disk_at, bytes_at, plan_of, plans_of, plan_at, will_fail, will_fail_at, Logged, LoggedIn}

-- The call is recorded, or the record has a gap, and an old gap stays. The same calls of the device are to fail.
pub record WasRecorded (device : Device) (was_starved starved : Bool) (calls after : List Call) (old new : Part) : Type 0 where
  pub plan : plan_of new ≡ plan_of old
  pub stays : was_starved ≡ true → starved ≡ true
  pub logged : Logged device (starved ≡ true) (disk_of old) (disk_of new) calls after

-- It is recorded that a call failed: the failure is counted, and the device holds the same bytes.
pub record HasFailed (device : Device) (was_starved starved : Bool) (calls after : List Call) (old new : Part) : Type 0 where
  pub bytes : new.bytes.items ≡ old.bytes.items
  pub rises : Rises old.faults new.faults
  pub recorded : WasRecorded device was_starved starved calls after old new

-- A call that is recorded fails where it is to fail, and else only where its record finds no memory. The device keeps its size.
pub record WasCalled (device : Device) (answer : Result (Unit {0}) Failed) (was_starved starved : Bool) (calls after : List Call) (old new : Part) : Type 0 where
  pub only : OnErr answer ((will_fail old ≡ true) ⊎ (starved ≡ true))
  pub told : will_fail old ≡ true → IsErr answer
  pub size : length new.bytes.items ≡ length old.bytes.items
  pub recorded : WasRecorded device was_starved starved calls after old new

-- the same of one of several devices, and the others are as they were
pub record WasCalledIn (device : Device) (k : ℕ) (answer : Result (Unit {0}) Failed) (was_starved starved : Bool) (calls after : List Call) (old new : List Part) : Type 0 where
  pub only : OnErr answer ((will_fail_at old k ≡ true) ⊎ (starved ≡ true))
  pub told : will_fail_at old k ≡ true → IsErr answer
  pub others : (j : ℕ) → j ≢ k → disk_at (disks_of new) j ≡ disk_at (disks_of old) j
  pub plans : (j : ℕ) → plan_at (plans_of new) j ≡ plan_at (plans_of old) j
  pub stays : was_starved ≡ true → starved ≡ true
  pub len : length new ≡ length old
  pub size : (j : ℕ) → length (bytes_at new j) ≡ length (bytes_at old j)
  pub logged : LoggedIn device k (starved ≡ true) (disks_of old) (disks_of new) calls after

-- the device is there, and has that range
pub record HasRange (parts : List Part) (k start size : ℕ) : Type 0 where
  pub is_there : k < length parts
  pub fits : start + size ≤ length (bytes_at parts k)
