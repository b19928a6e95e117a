-- Devices on which no record is in force.
use Rattle.std.specs.Prelude.{◌≡◌, ◌⊎◌, ◌<◌, ◌+◌, ◌*◌, ℕ, List, [], Bool, true, false, length, slice_index_or, None}
use Rattle.session_spec.specs.Prelude.{Device, Drive, Nv, NVRAM_DEVICES, SECTOR_BYTES, Image, drive, nvram, is_open, BootSlot, A, B, gate_place, shown_by, LOG_SLOTS, Shelved, IsIn, AreClean}
use Rattle.boot_region.specs.declared.regions.TheConstants.{REGION_BYTES}

-- a drive didn't answer
pub record HasSilent (answered : List Bool) : Type 0 where
  pub index : ℕ
  pub within : index < length answered
  pub silent : slice_index_or answered index false ≡ false

-- the boot units that were read tell each gate of a slot
abbrev pub IsReadIn : Shelved → List ℕ → BootSlot → Type 0
IsReadIn shelf bytes slot = (i : ℕ) → i < shelf.drives → is_open (REGION_BYTES * i + gate_place slot) bytes ≡ is_open (gate_place slot) (shelf.disk (drive i)).bytes

-- so in both slots
abbrev pub GatesAreRead : Shelved → List ℕ → Type 0
GatesAreRead shelf bytes = (slot : BootSlot) → IsReadIn shelf bytes slot

-- the gates of a slot are closed on each drive
abbrev pub IsShut : Shelved → BootSlot → Type 0
IsShut shelf slot = (i : ℕ) → i < shelf.drives → is_open (gate_place slot) (shelf.disk (drive i)).bytes ≡ false

-- no command is shown by an NVRAM device
abbrev pub HasNoCommand : Shelved → Type 0
HasNoCommand shelf = (n i : ℕ) → n < NVRAM_DEVICES → i < LOG_SLOTS → is_open i (shelf.disk (nvram n)).bytes ≡ false

-- each drive shows what it showed, or nothing
abbrev pub HidesOnly : Shelved → Image → Type 0
HidesOnly shelf image = (slot : BootSlot) (i : ℕ) → i < shelf.drives
    → (shown_by slot (image (drive i)) ≡ None) ⊎ (shown_by slot (image (drive i)) ≡ shown_by slot (shelf.disk (drive i)).bytes)

-- all gates are closed, and that lasts
pub record IsEmptied (shelf : Shelved) : Type 0 where
  pub clean : AreClean shelf
  pub shut : (slot : BootSlot) → IsShut shelf slot
  pub no_command : HasNoCommand shelf

-- the gates' sectors of a slot, where they were read as open
abbrev pub OnOpen : List ℕ → BootSlot → Device → ℕ → Type 0
OnOpen bytes slot (Drive d) i = (is_open (REGION_BYTES * d.0 + gate_place slot) bytes ≡ true) × IsIn (record { start = gate_place slot; size = SECTOR_BYTES }) i
OnOpen bytes slot (Nv n) i = ⊥

-- those of both slots
abbrev pub OnAllOpen : List ℕ → Device → ℕ → Type 0
OnAllOpen bytes device i = OnOpen bytes A device i ⊎ OnOpen bytes B device i

-- the device is an NVRAM device
abbrev pub IsNvram : Device → Type 0
IsNvram (Drive d) = ⊥
IsNvram (Nv n) = Unit {0}

-- the gates of the log
abbrev pub OnLogGates : Device → ℕ → Type 0
OnLogGates (Drive d) i = ⊥
OnLogGates (Nv n) i = i < LOG_SLOTS

-- the boot region of a drive, and those
abbrev pub OnBootOrLog : Device → ℕ → Type 0
OnBootOrLog (Drive d) i = i < REGION_BYTES
OnBootOrLog (Nv n) i = i < LOG_SLOTS
