-- Writes on the NVRAM devices of an open array.
use Rattle.std.specs.Prelude.{◌≡◌, ◌≢◌, ℕ, ◌+◌, ◌≤◌, Bool, List, [], ◌++◌, length, take, Some, Contains, slice_get}
use Rattle.session_spec.specs.Prelude.{Command, AllAccepted, after_all, Conditions, IsBearable, IsWithin, drive, Array, Stands, LOG_SLOTS, HasSpelling, geometry_of, Shelved, Stop, Continues, LeavesOnly, WritesOnly, named_sound}
use Rattle.nvram_log.specs.Prelude.{LeavesBetween, OnMembers}
use Rattle.register.specs.declared.state.Register.{Register}

-- Only NVRAM devices that hold the log are written, no drive is called, and each of these devices shows the first log at every moment, and nothing that isn't in the second.
pub record WritesLog (r : Register) (nvrams : List Bool) (least most : List Command) (old new : Shelved) : Type 0 where
  pub continues : Continues old new
  pub writes : WritesOnly (OnMembers nvrams) old new
  pub drives : (i : ℕ) → new.disk (drive i) ≡ old.disk (drive i)
  pub between : LeavesOnly old new (LeavesBetween nvrams r.record.flushed least most)

-- The second log goes on from the first, and from the base each front of it that has the first leads to one of the arrays.
pub record LeadTo (r : Register) (base : Array) (least most : List Command) (arrays : List Array) : Type 0 where
  pub front : (rest : List Command) × (most ≡ least ++ rest)
  pub room : length most ≤ LOG_SLOTS
  pub accepted : AllAccepted base most
  pub spelled : (i : ℕ) (c : Command) → slice_get most i ≡ Some c → HasSpelling (r.record.flushed + 1 + i) c
  pub some : arrays ≢ []
  pub fronts : (n : ℕ) → length least ≤ n → n ≤ length most → Contains arrays (after_all base (take n most))

-- at a stop the devices stand for the arrays, whatever more is missing
abbrev pub StandsWhateverFails : Shelved → Register → List Array → Stop → Type 0
StandsWhateverFails old r arrays stop = (later : Conditions) → IsWithin (named_sound r.record) later → IsBearable (geometry_of old) later → Stands (geometry_of old) stop.image later arrays
