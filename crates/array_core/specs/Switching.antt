-- The end of a checkpoint or a merge: what its writes left, and what its tables are once they are stored.
use Rattle.std.specs.Prelude.{◌≡◌, ◌⊎◌, ◌+◌, ◌<◌, ◌≤◌, ℕ, Bool, List, [], Some, Result, OnOk}
use Rattle.session_spec.specs.Prelude.{Command, Device, View, drive, nvram, Facts, segment, SegmentFact, set_count, ArePlaces, AreEnough, DataHolds, geometry_of, Shelved, Contents, AreAmong, ContentsStand}
use Rattle.boot_region.specs.Prelude.{IsMember, LostWrites}
use Rattle.nvram_log.specs.declared.log.NvLog.{NvLog}
use Rattle.nvram_log.specs.Prelude.{HoldsOn, Keeps}
use Rattle.nvram_log.specs.Members as nv
use Rattle.register.specs.declared.state.Register.{Register}
use Rattle.register.specs.declared.tables.Tables.{Tables}
use Rattle.register.specs.Prelude.{IsLaterRecord, OnSlots, drives_of, Content, IsOpen, with_tables, KeepsArray}
use Rattle.array_core.specs.Changing.{IsOpenOn}
use Rattle.array_core.specs.Drives.{SegmentsHold}
use Rattle.array_core.specs.Free.{WritesFree}
use Rattle.array_core.specs.Holding.{NoneJoinsBy}

-- ---- before

-- the array was open then, with the log that memory keeps
pub record WasOpen (start : Shelved) (r : Register) (log : NvLog) (held : Content) : Type 0 where
  pub is_open : IsOpen start r log.members held
  pub held_log : HoldsOn start log.members log.flushed held.log
  pub keeps : Keeps log held.log

-- of the drives of the record those that are called lost lost a write, and no others did, and no device of the log
pub record AreLost (start now : Shelved) (r : Register) (lost : List Bool) : Type 0 where
  pub cause : (i : ℕ) → IsMember (drives_of r) i → IsMember lost i → LostWrites (start.disk (drive i)) (now.disk (drive i))
  pub spared : (i : ℕ) → IsMember (drives_of r) i → ¬ (IsMember lost i) → (now.disk (drive i)).write_faults ≡ (start.disk (drive i)).write_faults
  pub logs : (n : ℕ) → (now.disk (nvram n)).write_faults ≡ (start.disk (nvram n)).write_faults

-- since the start only units were written that the tables leave free; drives that lost a write are called lost, and nothing is dirty on the others
pub record WroteFree (start now : Shelved) (r : Register) (lost : List Bool) (held : Content) : Type 0 where
  pub free : WritesFree r held start now
  pub cause : AreLost start now r lost
  pub synced : (i : ℕ) → IsMember (drives_of r) i → IsMember lost i ⊎ ((now.disk (drive i)).dirty ≡ [])

-- on the drives that aren't lost stand the next tables, and they keep the array
pub record HoldTables (now : Shelved) (r : Register) (lost : List Bool) (tables : Tables) (held next : Content) : Type 0 where
  pub stand : (left : List Bool) → ((i : ℕ) → IsMember left i → IsMember (drives_of r) i × ¬ (IsMember lost i))
      → DataHolds (geometry_of now) left (λ d. (now.disk d).bytes) (with_tables r.record tables) next.patches next.base
  pub keeps : KeepsArray r tables held next

-- since the start free units alone were written, and the next tables stand there
pub record MaySwitch (start now : Shelved) (r : Register) (log : NvLog) (lost : List Bool) (tables : Tables) (held next : Content) : Type 0 where
  pub was : WasOpen start r log held
  pub wrote : WroteFree start now r lost held
  pub hold : HoldTables now r lost tables held next

-- the array is open by tables that hold the commands of the log
pub record MayClear (shelf : Shelved) (r : Register) (log : NvLog) (held : Content) (commands : List Command) : Type 0 where
  pub is_open : IsOpenOn shelf r log held commands
  pub keeps : Keeps log commands
  pub empty : held.log ≡ []

-- ---- after it

-- the contents stand on drives of the record that aren't lost, where at most two of the shelf are missing
abbrev pub HoldOnLeft : Shelved → Register → List Bool → Contents → Facts → Type 0
HoldOnLeft now r lost contents fs = (left : List Bool) → ((i : ℕ) → IsMember left i → IsMember (drives_of r) i × ¬ (IsMember lost i))
    → (members : View) → AreAmong left (λ d. (now.disk d).bytes) members → AreEnough (geometry_of now) members → ContentsStand contents members fs

-- The record is one of these tables, of a later generation, on the drives that it names, which are enough, and no device has joined. What stood on all drives that aren't lost stands on its drives.
pub record HasTables (old new : Shelved) (lost : List Bool) (tables : Tables) (was now : Register) (members left : List Bool) : Type 0 where
  pub later : IsLaterRecord (with_tables was.record tables) now.record
  pub rises : was.record.generation < now.record.generation
  pub drives : now.record.members.drives ≡ now.drives
  pub enough : now.record.slots ≤ set_count now.drives + 2
  pub joins : NoneJoinsBy was members now left
  pub segments : old.honest → (contents : Contents) (fs : Facts) → ((id : ℕ) (d : SegmentFact) → segment fs id ≡ Some d → ArePlaces (geometry_of old) d.places)
      → HoldOnLeft old was lost contents fs → SegmentsHold contents new now fs

-- The record is a later one of the tables that were, or of these; after Ok it is one of these.
pub record ChangesTables {T E : Type 0} (result : Result T E) (old new : Shelved) (lost : List Bool) (tables : Tables) (was now : Register) (members left : List Bool) : Type 0 where
  pub kept : IsLaterRecord was.record now.record ⊎ IsLaterRecord (with_tables was.record tables) now.record
  pub changed : OnOk result (HasTables old new lost tables was now members left)

-- the log is empty, and goes on from what the record has flushed
pub record IsCleared (r : Register) (log : NvLog) : Type 0 where
  pub flushed : log.flushed ≡ r.record.flushed
  pub none : log.count ≡ 0
  pub some : nv.IsSome log.members
  pub keeps : Keeps log []

-- ---- what is written

-- both boot slots on the drives of the record, and the log on its devices
abbrev pub OnSlotsAndLog : Register → List Bool → Device → ℕ → Type 0
OnSlotsAndLog r members d i = OnSlots (drives_of r) d i ⊎ nv.OnMembers members d i
