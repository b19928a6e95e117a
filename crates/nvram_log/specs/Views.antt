-- What was read of the two devices, and the log that is gathered from it.
use Rattle.std.specs.Prelude.{◌≡◌, ◌⊎◌, ℕ, ◌+◌, ◌<◌, Bool, true, false, Option, Some, None, List, [], ◌∷◌, length, slice_get, slice_index_or}
use Rattle.world.specs.Prelude.{Command, is_open, nvram, Shelved}
use Rattle.log_codec.specs.declared.limits.TheConstants.{LOG_SLOTS}
use Rattle.log_codec.specs.Prelude.{ShowsIn}
use Rattle.nvram_log.specs.declared.logged.Logged.{Logged}
use Rattle.nvram_log.specs.declared.log.NvLog.{NvLog}
use Rattle.nvram_log.specs.declared.read.Reads.{Reads}
use Rattle.nvram_log.specs.declared.reading.DeviceRead.{DeviceRead}
use Rattle.nvram_log.specs.declared.seen.SeenSlots.{SeenSlots}
use Rattle.nvram_log.specs.Logged.{IsLogged, command_of_logged}

-- what was read of a slot is what the bytes of the device show in it
abbrev pub IsShownAs : List ℕ → ℕ → ℕ → Option Logged → Type 0
IsShownAs bytes flushed i None = (c : Command) → ¬ (ShowsIn bytes flushed i c)
IsShownAs bytes flushed i (Some l) = ShowsIn bytes flushed i (command_of_logged l)

-- a record stands there
abbrev pub IsThere : List (Option Logged) → ℕ → Logged → Type 0
IsThere records i l = slice_get records i ≡ Some (Some l)

-- none does
abbrev pub NoneThere : List (Option Logged) → ℕ → Type 0
NoneThere records i = (l : Logged) → ¬ (IsThere records i l)

-- each was read under the number that belongs there
abbrev pub AreNumbered : ℕ → List (Option Logged) → Type 0
AreNumbered flushed records = (i : ℕ) (l : Logged) → IsThere records i l → IsLogged (flushed + 1 + i) l

-- what was read of so many slots is what the device shows in them
abbrev pub AreShownAs : List ℕ → ℕ → List (Option Logged) → Type 0
AreShownAs bytes flushed records = (i : ℕ) (o : Option Logged) → slice_get records i ≡ Some o → IsShownAs bytes flushed i o

-- of a device that is a member still all slots were read, and of another one none
pub record IsDeviceRead (honest : Type 0) (bytes : List ℕ) (flushed : ℕ) (r : DeviceRead) : Type 0 where
  pub size : r.is_member ≡ true → length r.records.items ≡ LOG_SLOTS
  pub none : r.is_member ≡ false → r.records.items ≡ []
  pub numbered : AreNumbered flushed r.records.items
  pub shows : honest → r.is_member ≡ true → AreShownAs bytes flushed r.records.items
  pub gates : honest → r.is_member ≡ true → (i : ℕ) → i < LOG_SLOTS → slice_index_or r.open i false ≡ is_open i bytes

-- which are members still
abbrev pub members_of : Reads → List Bool
members_of reads = reads.first.is_member ∷ reads.second.is_member ∷ []

-- so of both
pub record AreReadOf (honest : Type 0) (shelf : Shelved) (flushed : ℕ) (reads : Reads) : Type 0 where
  pub first : IsDeviceRead honest (shelf.disk (nvram 0)).bytes flushed reads.first
  pub second : IsDeviceRead honest (shelf.disk (nvram 1)).bytes flushed reads.second

-- the records are those of the first device, and of the second where the first has none, up to the first slot in which neither has one
pub record AreGathered (first second : List (Option Logged)) (records : List Logged) : Type 0 where
  pub each : (i : ℕ) (l : Logged) → slice_get records i ≡ Some l → IsThere first i l ⊎ (NoneThere first i × IsThere second i l)
  pub ends : length records < LOG_SLOTS → NoneThere first (length records) × NoneThere second (length records)

-- the flags tell what was read of a device
pub record IsSeenOf (r : DeviceRead) (seen : SeenSlots) : Type 0 where
  pub gates : seen.open ≡ r.open
  pub some : (i : ℕ) → i < LOG_SLOTS → slice_index_or seen.shown i false ≡ true → (l : Logged) × IsThere r.records.items i l
  pub none : (i : ℕ) → i < LOG_SLOTS → slice_index_or seen.shown i false ≡ false → NoneThere r.records.items i

-- the log of what was read
pub record IsLogOf (reads : Reads) (flushed : ℕ) (log : NvLog) : Type 0 where
  pub flushed_is : log.flushed ≡ flushed
  pub members_are : log.members ≡ members_of reads
  pub count_is : log.count ≡ length log.records.items
  pub gathered : AreGathered reads.first.records.items reads.second.records.items log.records.items
  pub first_seen : (s : SeenSlots) → slice_get log.seen 0 ≡ Some s → IsSeenOf reads.first s
  pub second_seen : (s : SeenSlots) → slice_get log.seen 1 ≡ Some s → IsSeenOf reads.second s
