-- An array that stands in its log alone: the record names no patch, and the commands of the log make the array of nothing.
use Rattle.std.specs.Prelude.{◌≡◌, ℕ, ◌+◌, ◌<◌, ◌≤◌, true, false, List, [], ◌++◌, length, take, Some, Contains, slice_get}
use Rattle.boot_codec.specs.Prelude.{Geometry, Image, Conditions, View, Sound, LeftOut, IsOn, drive, nvram, Array, Command, AllAccepted, after_all, Device, NVRAM_DEVICES, spelling, BootSlot, IsRecordOf, body_in, names}
use Rattle.boot_codec.specs.declared.record.BootRecord.{BootRecord}
use Rattle.log_codec.specs.declared.limits.TheConstants.{LOG_SLOTS}
use Rattle.log_codec.specs.Prelude.{HasSpelling, ShowsIn}
use Rattle.array_spec.specs.Meaning.{HoldsBase, IsInForce}
use Rattle.array_spec.specs.Standing.{IsReadInto}

-- Of the commands of the log, a device that isn't missing shows the first ones at least, and no device of the record shows another.
pub record LogLies (image : Image) (missing : Conditions) (boot : BootRecord) (least most : List Command) : Type 0 where
  pub front : (rest : List Command) × (most ≡ least ++ rest)
  pub room : length most ≤ LOG_SLOTS
  pub lawful : (i : ℕ) (c : Command) → slice_get most i ≡ Some c → HasSpelling (boot.flushed + 1 + i) c
  pub all : (n i : ℕ) (c : Command) → n < NVRAM_DEVICES → missing (nvram n) ≡ Sound → slice_get least i ≡ Some c → ShowsIn (image (nvram n)) boot.flushed i c
  pub no_other : (n i : ℕ) (c : Command) → n < NVRAM_DEVICES → names boot (nvram n) ≡ true → ShowsIn (image (nvram n)) boot.flushed i c → slice_get most i ≡ Some c
  -- a device that may show anything is none of the record's
  pub left_out : (n : ℕ) → n < NVRAM_DEVICES → missing (nvram n) ≡ LeftOut → names boot (nvram n) ≡ false

-- The record names each device that isn't missing, and its body stands on each such drive.
pub record NamesSound (shelf : Geometry) (image : Image) (missing : Conditions) (slot : BootSlot) (boot : BootRecord) : Type 0 where
  pub named : (d : Device) → IsOn shelf d → missing d ≡ Sound → names boot d ≡ true
  pub written : (i : ℕ) → i < shelf.slots → missing (drive i) ≡ Sound → body_in slot (image (drive i)) ≡ spelling boot

-- such a record is read into the arrays that the log may lead to
abbrev pub UnflushedIsRead : Type 0
UnflushedIsRead = (shelf : Geometry) (image : Image) (missing : Conditions) (slot : BootSlot) (boot : BootRecord) (least most : List Command) (arrays : List Array)
    → IsRecordOf shelf boot → boot.patches ≡ [] → IsInForce slot boot → NamesSound shelf image missing slot boot
    → AllAccepted [] most → LogLies image missing boot least most
    → ((n : ℕ) → length least ≤ n → n ≤ length most → Contains arrays (after_all [] (take n most)))
    → (r : IsReadInto shelf image missing slot boot arrays) × (r.base ≡ [])

-- and such a record holds the array of nothing, in each view
abbrev pub UnflushedHoldsNothing : Type 0
UnflushedHoldsNothing = (shelf : Geometry) (members : View) (boot : BootRecord) (base : Array) → boot.patches ≡ [] → HoldsBase shelf members boot base → base ≡ []
