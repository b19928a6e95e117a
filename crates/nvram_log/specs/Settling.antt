-- The log is settled on a device: gates that don't count are closed, and slots that it lacks are copied to it.
use Rattle.std.specs.Prelude.{◌≡◌, ◌≢◌, ◌⊎◌, ℕ, ◌<◌, ◌≤◌, Bool, List, [], length, Some, slice_get, slice_index}
use Rattle.world.specs.Prelude.{Command, nvram, Device, Shelved, Stop, Disk, MayLeave, IsIn}
use Rattle.log_codec.specs.declared.limits.TheConstants.{LOG_SLOTS, SLOT_BYTES}
use Rattle.log_codec.specs.Prelude.{ShowsIn, slot_at}
use Rattle.nvram_log.specs.declared.log.NvLog.{NvLog}
use Rattle.nvram_log.specs.declared.logged.Logged.{Logged}
use Rattle.nvram_log.specs.declared.seen.SeenSlots.{SeenSlots}
use Rattle.nvram_log.specs.Logged.{AreRead, SpellsAs}
use Rattle.nvram_log.specs.Members.{IsFlagged, IsMember}
use Rattle.nvram_log.specs.Records.{slot_place}
use Rattle.nvram_log.specs.Seen.{AreSeen}

-- the gates of the flagged slots on a device
abbrev pub OnGates : Device → List Bool → Device → ℕ → Type 0
OnGates device flags d i = (d ≡ device) × (i < LOG_SLOTS) × IsFlagged flags i

-- the byte lies in a flagged slot
pub record IsInFlagged (flags : List Bool) (i : ℕ) : Type 0 where
  pub slot : ℕ
  pub below : slot < LOG_SLOTS
  pub flagged : IsFlagged flags slot
  pub within : IsIn (record { start = slot_place slot; size = SLOT_BYTES }) i

-- the flagged slots on a device
abbrev pub OnSlots : Device → List Bool → Device → ℕ → Type 0
OnSlots device flags d i = (d ≡ device) × IsInFlagged flags i

-- the bytes of a device
abbrev pub OnDevice : Device → Device → ℕ → Type 0
OnDevice device d i = d ≡ device

-- each flagged gate holds this
abbrev pub GatesAre : List Bool → ℕ → List ℕ → Type 0
GatesAre flags gate bytes = (i : ℕ) → i < LOG_SLOTS → IsFlagged flags i → slice_index bytes i ≡ gate

-- each flagged slot of a device begins with its record
abbrev pub SlotsAre : List Bool → List Logged → List ℕ → Type 0
SlotsAre flags records bytes = (i : ℕ) (l : Logged) → i < LOG_SLOTS → IsFlagged flags i → slice_get records i ≡ Some l → SpellsAs (slot_at i bytes) l

-- what is known of a device on which the log is to be settled: what it showed, and that a slot of the log in which it shows a command shows that of the log
pub record IsToSettle (bytes : List ℕ) (flushed : ℕ) (seen : SeenSlots) (records : List Logged) (commands : List Command) : Type 0 where
  pub room : length commands ≤ LOG_SLOTS
  pub shown : AreSeen bytes flushed seen
  pub read : AreRead records flushed commands
  pub agrees : (i : ℕ) (c : Command) → i < length commands → ShowsIn bytes flushed i c → slice_get commands i ≡ Some c

-- What a stop leaves of a device meanwhile: what it might have left before, and commands of the log. A device on which nothing was dirty shows what it showed of the log.
pub record SettlesBy (before : Disk) (flushed : ℕ) (commands : List Command) (bytes : List ℕ) : Type 0 where
  pub was : List ℕ
  pub may : MayLeave before was
  pub size : length bytes ≡ length before.bytes
  pub no_other : (i : ℕ) (c : Command) → ShowsIn bytes flushed i c → (slice_get commands i ≡ Some c) ⊎ ShowsIn was flushed i c
  -- under numbers that follow on another one it shows nothing new
  pub none_elsewhere : (other i : ℕ) (c : Command) → other ≢ flushed → ShowsIn bytes other i c → ShowsIn was other i c
  pub still : before.dirty ≡ [] → (i : ℕ) (c : Command) → i < length commands → ShowsIn before.bytes flushed i c → ShowsIn bytes flushed i c

-- so each member
abbrev pub SettleBy : Shelved → List Bool → ℕ → List Command → Stop → Type 0
SettleBy shelf members flushed commands stop = (n : ℕ) → n < 2 → IsMember members n → SettlesBy (shelf.disk (nvram n)) flushed commands (stop.image (nvram n))

-- so much is known of each member
abbrev pub AreToSettle : Shelved → List Bool → ℕ → List SeenSlots → List Logged → List Command → Type 0
AreToSettle shelf members flushed seen records commands =
    (n : ℕ) (s : SeenSlots) → n < 2 → IsMember members n → slice_get seen n ≡ Some s → IsToSettle (shelf.disk (nvram n)).bytes flushed s records commands

-- each member shows what it showed when the log was read
abbrev pub AreAsSeen : Shelved → NvLog → Type 0
AreAsSeen shelf log = (n : ℕ) (s : SeenSlots) → n < 2 → IsMember log.members n → slice_get log.seen n ≡ Some s → AreSeen (shelf.disk (nvram n)).bytes log.flushed s

-- no member shows a command in a slot of the log that isn't that of the log
abbrev pub Agree : Shelved → List Bool → ℕ → List Command → Type 0
Agree shelf members flushed commands = (n i : ℕ) (c : Command) → n < 2 → IsMember members n → i < length commands → ShowsIn (shelf.disk (nvram n)).bytes flushed i c → slice_get commands i ≡ Some c
