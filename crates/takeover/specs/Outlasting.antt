-- What an opening leaves where more fails in it than is borne.
use Rattle.std.specs.Prelude.{◌≡◌, true, ◌<◌, ℕ, Bool, List}
use Rattle.session_spec.specs.Prelude.{Device, Conditions, Sound, IsBearable, IsWithin, drive, nvram, Array, BootRecord, BootSlot, names, other_slot, spelling, geometry_of, Shelved, LeavesOnly, Enters}
use Rattle.boot_region.specs.declared.loading.Loaded.{Loaded}
use Rattle.boot_region.specs.Prelude.{IsMember, slot_in, IsFirmOn, IsOlder}
use Rattle.array_core.specs.Prelude.{StandsOnceBack}
use Rattle.takeover.specs.Found.{IsFoundOn}

-- each NVRAM device that the record names is sound
abbrev pub AreSoundLogs : BootRecord → Conditions → Type 0
AreSoundLogs boot missing = (n : ℕ) → names boot (nvram n) ≡ true → missing (nvram n) ≡ Sound

-- No store is unfinished at the entry: the record in force stands on each sound drive, over an older one in the other slot, and each device that it names is sound.
pub record EntersFirmly (shelf : Shelved) (missing : Conditions) (next : BootSlot) (boot : BootRecord) : Type 0 where
  pub members : List Bool
  pub firm : IsFirmOn shelf members missing next boot
  pub named : (d : Device) → names boot d ≡ true → missing d ≡ Sound

-- Where no store was unfinished at the entry nothing is lost in the opening, whatever fails.
abbrev pub OutlastsFailures : Shelved → Shelved → Type 0
OutlastsFailures old new = (missing : Conditions) (next : BootSlot) (boot : BootRecord) (arrays : List Array) → Enters old missing arrays → EntersFirmly old missing next boot
    → LeavesOnly old new (StandsOnceBack old missing arrays)

-- The record was found on drives that were sound at the entry, over an older one, and names NVRAM devices that were. In all borne conditions in which no other drive is sound it was found on them.
pub record IsFoundFirmly (shelf : Shelved) (x : Loaded) (missing : Conditions) (arrays : List Array) : Type 0 where
  pub sound : (i : ℕ) → IsMember x.drives i → missing (drive i) ≡ Sound
  pub below : (i : ℕ) → IsMember x.drives i → i < shelf.drives
  pub logs : AreSoundLogs x.record missing
  pub older : (i : ℕ) → IsMember x.drives i → IsOlder shelf (other_slot (slot_in x.slot)) (spelling x.record) i
  pub found : (later : Conditions) → IsWithin missing later → IsBearable (geometry_of shelf) later → ((i : ℕ) → later (drive i) ≡ Sound → IsMember x.drives i)
      → IsFoundOn shelf x later arrays
