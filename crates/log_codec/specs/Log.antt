-- The commands that a view of the NVRAM devices shows, and the log that they are.
use Rattle.std.specs.Prelude.{◌≡◌, ◌⊎◌, ℕ, suc, ◌+◌, ◌*◌, ◌<◌, List, [], ◌∷◌, ◌++◌, length, Some, IsTrue, ◌^◌}
use Rattle.std.specs.List.{AllByRecursion, concat}
use Rattle.pur_base.specs.Prelude.{IsBytesOf, bytes_at, is_open, View, nvram, Array, data_count, Command, Accepts, after}
use Rattle.pur_base.specs.declared.limits.TheConstants.{SECTOR_BYTES}
use Rattle.log_codec.specs.declared.limits.TheConstants.{LOG_SLOTS, SLOTS_START, SLOT_BYTES}
use Rattle.log_codec.specs.Head.{IsCommand, head_bytes}

-- a slot's bytes
abbrev pub slot_at : ℕ → List ℕ → List ℕ
slot_at i bytes = bytes_at (SLOTS_START + SLOT_BYTES * i) SLOT_BYTES bytes

-- the head of a command, and the sectors behind it
abbrev pub slot_bytes : ℕ → Command → List ℕ
slot_bytes number c = head_bytes (record { number = number; command = c.request }) ++ concat c.sectors

-- what has a spelling: a write comes with as many sectors as it names, and another command with none
pub record HasSpelling (number : ℕ) (c : Command) : Type 0 where
  pub fits : number < 2 ^ 64
  pub command : IsCommand c.request
  pub count : length c.sectors ≡ data_count c.request
  pub sectors : AllByRecursion (IsBytesOf SECTOR_BYTES) c.sectors

-- the slot begins with the command under this number
pub record Spells (bytes : List ℕ) (number : ℕ) (c : Command) : Type 0 where
  pub lawful : HasSpelling number c
  pub behind : List ℕ
  pub text : bytes ≡ slot_bytes number c ++ behind

-- the bytes of an NVRAM device show this command in a slot: under an open gate, with the number that belongs there
pub record ShowsIn (bytes : List ℕ) (flushed i : ℕ) (c : Command) : Type 0 where
  pub slot : i < LOG_SLOTS
  pub gate : IsTrue (is_open i bytes)
  pub spelled : Spells (slot_at i bytes) (flushed + 1 + i) c

-- a device shows this command in a slot
pub record Shows (view : View) (device flushed i : ℕ) (c : Command) : Type 0 where
  pub slot : i < LOG_SLOTS
  pub bytes : List ℕ
  pub shown : view (nvram device) ≡ Some bytes
  pub gate : IsTrue (is_open i bytes)
  pub spelled : Spells (slot_at i bytes) (flushed + 1 + i) c

-- the command of a slot: that of the lower device that shows one
abbrev pub IsInSlot : View → ℕ → ℕ → Command → Type 0
IsInSlot view flushed i c = Shows view 0 flushed i c ⊎ (((d : Command) → ¬ (Shows view 0 flushed i d)) × Shows view 1 flushed i c)

-- the commands from a slot on, as long as the next one is accepted after those before it
abbrev pub LogFrom : View → ℕ → ℕ → Array → List Command → Type 0
LogFrom view flushed i array [] = (c : Command) → IsInSlot view flushed i c → ¬ (Accepts array c)
LogFrom view flushed i array (c ∷ cs) = IsInSlot view flushed i c × Accepts array c × LogFrom view flushed (suc i) (after array c) cs

-- the log over a base
abbrev pub LogStands : View → ℕ → Array → List Command → Type 0
LogStands view flushed base commands = LogFrom view flushed 0 base commands

-- no two devices show different commands in one slot
abbrev pub DevicesAgree : View → ℕ → Type 0
DevicesAgree view flushed = (i : ℕ) (c d : Command) → Shows view 0 flushed i c → Shows view 1 flushed i d → c ≡ d
