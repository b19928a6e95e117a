-- The log that is read from the devices.
use Rattle.std.specs.Prelude.{◌≡◌, ℕ, ◌<◌, Bool, List, Some, slice_get}
use Rattle.world.specs.Prelude.{Command, View, nvram, Device, Ran, Rises, Shelved, IsSame}
use Rattle.log_codec.specs.declared.limits.TheConstants.{LOG_SLOTS}
use Rattle.log_codec.specs.Prelude.{Shows, IsInSlot}
use Rattle.nvram_log.specs.declared.log.NvLog.{NvLog}
use Rattle.nvram_log.specs.declared.read.ReadFault.{ReadFault}
use Rattle.nvram_log.specs.declared.read.ReadFault.TheVariants as fault
use Rattle.nvram_log.specs.Members.{IsMember, IsNvram}
use Rattle.nvram_log.specs.Held.{HasRead}

-- memory has the commands that the view shows, up to the first slot in which no device shows one
pub record IsReadFrom (honest : Type 0) (view : View) (log : NvLog) : Type 0 where
  pub commands : List Command
  pub has : HasRead log commands
  pub shown : honest → (i : ℕ) (c : Command) → slice_get commands i ≡ Some c → IsInSlot view log.flushed i c
  pub ends : honest → log.count < LOG_SLOTS → (n : ℕ) (c : Command) → n < 2 → ¬ (Shows view n log.flushed log.count c)

-- each member failed, where both are lost
abbrev pub AllFailed : ReadFault → Shelved → Shelved → List Bool → Type 0
AllFailed fault.NoMemory old new was = Unit {0}
AllFailed fault.BothLost old new was = (n : ℕ) → n < 2 → IsMember was n → Rises (old.disk (nvram n)).faults (new.disk (nvram n)).faults

-- no byte
abbrev pub OnNothing : Device → ℕ → Type 0
OnNothing d i = ⊥

-- A run that only reads: it writes no byte, each device is as it was, and no write or sync failed.
pub record OnlyReads {X : Type 0} (shelf : X → Shelved) (same_rest : X → X → Type 0) (old new : X) : Type 0 where
  pub ran : Ran shelf same_rest IsNvram OnNothing old new
  pub same : (shelf old).honest → (d : Device) → IsSame ((shelf old).disk d) ((shelf new).disk d)
  pub looks : (d : Device) → ((shelf new).disk d).write_faults ≡ ((shelf old).disk d).write_faults
