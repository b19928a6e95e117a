-- Settling the log: what was read of it is written to the devices that answered.
use Rattle.std.specs.Prelude.{◌≡◌, ◌≢◌, ◌⊎◌, ℕ, ◌<◌, Bool, true, false, List, length, Some, None, slice_get, slice_index_or, if◌then◌else◌}
use Rattle.boot_codec.specs.Prelude.{Geometry, Image, View, Conditions, Sound, LeftOut, IsWithin, IsBearable, nvram, Array, Command, Drive, Nv, NVRAM_DEVICES, BootSlot, names}
use Rattle.boot_codec.specs.declared.record.BootRecord.{BootRecord}
use Rattle.log_codec.specs.Prelude.{ShowsIn, LogStands}
use Rattle.array_spec.specs.Standing.{Stands, MayBeGiven}
use Rattle.array_spec.specs.Laws.{DiffersOnlyInNvram, IsNamedByNone}

-- of these NVRAM devices what stands on them, and of all other devices nothing
abbrev pub answering : List Bool → Image → View
answering members image (Drive d) = None
answering members image (Nv n) = if slice_index_or members n.0 false then Some (image (Nv n)) else None

-- Each of these devices shows nothing but what it showed and commands of the log, and still shows what it showed in the slots of the log. The others stay.
pub record SettlesLog (members : List Bool) (flushed : ℕ) (log : List Command) (old new : Image) : Type 0 where
  pub only_nvram : DiffersOnlyInNvram old new
  pub others : (n : ℕ) → slice_index_or members n false ≡ false → new (nvram n) ≡ old (nvram n)
  pub no_other : (n i : ℕ) (c : Command) → slice_index_or members n false ≡ true → ShowsIn (new (nvram n)) flushed i c → (slice_get log i ≡ Some c) ⊎ ShowsIn (old (nvram n)) flushed i c
  pub still : (n i : ℕ) (c : Command) → slice_index_or members n false ≡ true → i < length log → ShowsIn (old (nvram n)) flushed i c → ShowsIn (new (nvram n)) flushed i c
  -- under numbers that follow on another one it shows nothing new
  pub none_elsewhere : (n i other : ℕ) (c : Command) → slice_index_or members n false ≡ true → other ≢ flushed → ShowsIn (new (nvram n)) other i c → ShowsIn (old (nvram n)) other i c

-- What is known of the devices whose log is settled: the record may be given, and any other that may be is of a later generation; each NVRAM device that isn't missing answered; those that answered are the record's; and none that was left out is named by a record that may be given.
pub record MaySettle (shelf : Geometry) (image : Image) (missing : Conditions) (members : List Bool) (slot : BootSlot) (boot : BootRecord) : Type 0 where
  pub given : MayBeGiven shelf image missing slot boot
  pub no_earlier : (slot2 : BootSlot) (boot2 : BootRecord) → MayBeGiven shelf image missing slot2 boot2 → ((slot2 ≡ slot) × (boot2 ≡ boot)) ⊎ (boot.generation < boot2.generation)
  pub sound : (n : ℕ) → n < NVRAM_DEVICES → missing (nvram n) ≡ Sound → slice_index_or members n false ≡ true
  pub named : (n : ℕ) → slice_index_or members n false ≡ true → names boot (nvram n) ≡ true
  pub left_out : (n : ℕ) → missing (nvram n) ≡ LeftOut → IsNamedByNone shelf image missing (nvram n)

-- then the devices stand for the same arrays at every moment of it
abbrev pub SettlingKeeps : Type 0
SettlingKeeps = (shelf : Geometry) (old new : Image) (missing later : Conditions) (members : List Bool) (slot : BootSlot) (boot : BootRecord) (log : List Command) (arrays : List Array)
    → IsWithin missing later → IsBearable shelf later
    → (s : Stands shelf old missing arrays) → (m : MaySettle shelf old missing members slot boot)
    → LogStands (answering members old) boot.flushed (s.reads slot boot m.given).base log
    → SettlesLog members boot.flushed log old new
    → Stands shelf new later arrays
