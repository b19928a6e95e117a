-- Commands that are read back.
use Rattle.std.specs.Prelude.{◌≡◌, ℕ, ◌+◌, Some, List, drop, slice_get}
use Rattle.world.specs.Prelude.{Command, data_count, sectors_in, SECTOR_BYTES}
use Rattle.log_codec.specs.Prelude.{HasSpelling, Spells, slot_bytes}
use Rattle.log_codec.specs.declared.head.Head.{Head}
use Rattle.nvram_log.specs.declared.logged.Logged.{Logged}

-- the command of a head and the sectors behind it
abbrev pub command_in : List ℕ → Head → Command
command_in bytes h = record { request = h.command; sectors = sectors_in (data_count h.command) (drop SECTOR_BYTES bytes) }

abbrev pub command_of_logged : Logged → Command
command_of_logged l = command_in l.bytes.items l.head

-- the command under this number was read
pub record IsReadAs (l : Logged) (number : ℕ) (c : Command) : Type 0 where
  pub number_is : l.head.number ≡ number
  pub request : l.head.command ≡ c.request
  pub text : l.bytes.items ≡ slot_bytes number c

-- its own command was
pub record IsLogged (number : ℕ) (l : Logged) : Type 0 where
  pub lawful : HasSpelling number (command_of_logged l)
  pub read : IsReadAs l number (command_of_logged l)

-- a slot begins with it
abbrev pub SpellsAs : List ℕ → Logged → Type 0
SpellsAs slot l = (number : ℕ) (c : Command) → HasSpelling number c → IsReadAs l number c → Spells slot number c

-- so it stands in its place
pub record IsReadAt (records : List Logged) (i number : ℕ) (c : Command) : Type 0 where
  pub logged : Logged
  pub at : slice_get records i ≡ Some logged
  pub lawful : HasSpelling number c
  pub read : IsReadAs logged number c

-- the commands are those of the records, under the numbers that follow on what is flushed
abbrev pub AreRead : List Logged → ℕ → List Command → Type 0
AreRead records flushed commands = (i : ℕ) (c : Command) → slice_get commands i ≡ Some c → IsReadAt records i (flushed + 1 + i) c
