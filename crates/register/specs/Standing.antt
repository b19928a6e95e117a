-- An array that stands in its tables and its log, by the record in the register.
use Rattle.std.specs.Prelude.{◌≡◌, ◌⊎◌, ℕ, ◌<◌, ◌≤◌, List, [], ◌∷◌, length, Bool, true, false, Some, Contains}
use Rattle.array_spec.specs.Prelude.{Conditions, Sound, LeftOut, IsBearable, IsWithin, drive, nvram, Array, Command, AllAccepted, after_all, AnyFact, BootRecord, BootSlot, body_in, names, shown_by, spelling, MayBeGiven, Stands, TablesHold, LOG_SLOTS, named_sound}
use Rattle.world.specs.Prelude.{Shelved, Stop, MayStop, geometry_of, has_risen}
use Rattle.boot_region.specs.Prelude.{IsMember, WasGiven, StandsNow, StandsBut, SoundAreMembers, IsInForceOn, AreOlder, AccountsFor}
use Rattle.nvram_log.specs.Prelude.{IsBetween}
use Rattle.nvram_log.specs.Members as nv
use Rattle.register.specs.declared.state.Register.{Register}
use Rattle.register.specs.Registers.{IsRegisterOf, IsLaterRecord, own_slot, next_slot, drives_of}

-- What the devices hold of an array: the facts of its tables, the array that these are, and the commands that were logged since.
pub record Content : Type 0 where
  pub patches : List (List AnyFact)
  pub base : Array
  pub log : List Command

-- the array of the content
abbrev pub array_of : Content → Array
array_of held = after_all held.base held.log

-- that of commands alone, where no table has been stored yet
abbrev pub unflushed : List Command → Content
unflushed commands = record { patches = []; base = []; log = commands }

-- the bytes show this log and no other command behind what is flushed
pub record IsShown (bytes : List ℕ) (flushed : ℕ) (commands : List Command) : Type 0 where
  pub room : length commands ≤ LOG_SLOTS
  pub between : IsBetween bytes flushed commands commands

-- each of the NVRAM devices does, and nothing is dirty on it
pub record ShowsOn (shelf : Shelved) (members : List Bool) (flushed : ℕ) (commands : List Command) : Type 0 where
  pub log : (n : ℕ) → n < 2 → nv.IsMember members n → IsShown (shelf.disk (nvram n)).bytes flushed commands
  pub clean : (n : ℕ) → n < 2 → nv.IsMember members n → (shelf.disk (nvram n)).dirty ≡ []

-- the record's bytes stand on each of the drives, its tables hold the base whatever a stop leaves, and each of the NVRAM devices shows the log
pub record StandsInLog (shelf : Shelved) (r : Register) (nvrams : List Bool) (held : Content) : Type 0 where
  pub is_of : IsRegisterOf (geometry_of shelf) r
  pub tables : (start : Stop) → MayStop shelf start → TablesHold (geometry_of shelf) start.image (own_slot r.record) r.record held.patches held.base
  pub bodies : (i : ℕ) → IsMember (drives_of r) i → body_in (own_slot r.record) (shelf.disk (drive i)).bytes ≡ spelling r.record
  pub holds : ShowsOn shelf nvrams r.record.flushed held.log
  pub accepted : AllAccepted held.base held.log

-- wherever the bytes of the record stood, those of the one that the register holds by then stand
abbrev pub StaysLogged : Shelved → Shelved → Register → Register → List Bool → Type 0
StaysLogged old new was now nvrams = (held : Content) → StandsInLog old was nvrams held → StandsInLog new now nvrams held

-- In these conditions the next record may be stored: the record is in force, and the devices stand for the arrays, one of which is that of the log.
-- Each NVRAM device that isn't missing holds the log, and none that was left out is among them, nor does the record name such a drive.
pub record MayStore (shelf : Shelved) (r : Register) (nvrams : List Bool) (missing : Conditions) (held : Content) (arrays : List Array) : Type 0 where
  pub logged : StandsInLog shelf r nvrams held
  pub in_force : IsInForceOn shelf (drives_of r) missing (next_slot r.record) r.record
  pub stands : StandsNow shelf missing arrays
  pub one_of : Contains arrays (array_of held)
  pub sound : (n : ℕ) → n < 2 → missing (nvram n) ≡ Sound → nv.IsMember nvrams n
  pub left_out : (n : ℕ) → missing (nvram n) ≡ LeftOut → ¬ (nv.IsMember nvrams n)
  pub unnamed : (i : ℕ) → missing (drive i) ≡ LeftOut → names r.record (drive i) ≡ false

-- Where nothing is lost by a store, whatever fails: each drive on which the record is in force is sound, and what its other slot holds is older.
pub record IsFirm (shelf : Shelved) (r : Register) (missing : Conditions) : Type 0 where
  pub bearable : IsBearable (geometry_of shelf) missing
  pub sound : (i : ℕ) → IsMember (drives_of r) i → missing (drive i) ≡ Sound
  pub older : AreOlder shelf missing (drives_of r) (next_slot r.record) (spelling r.record)

-- in borne conditions in which just the drives that are left are sound, of those that were, the next record may be stored again so
abbrev pub MayStoreFirmly : Shelved → Shelved → Register → List Bool → Conditions → Content → List Array → Type 0
MayStoreFirmly old new now nvrams missing held arrays = (later : Conditions) → IsWithin missing later → IsBearable (geometry_of old) later
    → SoundAreMembers new later (drives_of now) → ((i : ℕ) → IsMember (drives_of now) i → later (drive i) ≡ Sound)
    → MayStore new now nvrams later held arrays × IsFirm new now later

-- in all conditions that tell what failed meanwhile the next record may be stored again
abbrev pub MayStoreAgain : Shelved → Shelved → Register → Register → List Bool → Conditions → Content → List Array → Type 0
MayStoreAgain old new was now nvrams missing held arrays = (later : Conditions)
    → AccountsFor old (drives_of was) missing (next_slot was.record) (spelling was.record) (λ d. (new.disk d).faults) (λ d. (new.disk d).write_faults) later
    → MayStore new now nvrams later held arrays

-- a record that such a store writes: later, with these NVRAM devices and no drive that isn't left, all else as it was
pub record IsNextOf (r : Register) (nvrams : List Bool) (boot : BootRecord) : Type 0 where
  pub later : IsLaterRecord r.record boot
  pub generation : r.record.generation < boot.generation
  pub nvrams_are : boot.members.nvrams ≡ nvrams
  pub drives : (i : ℕ) → IsMember boot.members.drives i → IsMember r.drives i

-- what may be given is such a record, or one that might have been given before, in all conditions that tell what has failed by then
abbrev pub GivesOldOrNext : Shelved → Register → List Bool → Conditions → Stop → Type 0
GivesOldOrNext old r nvrams missing stop = (later : Conditions)
    → AccountsFor old (drives_of r) missing (next_slot r.record) (spelling r.record) stop.faults stop.write_faults later
    → (slot : BootSlot) (boot : BootRecord) → MayBeGiven (geometry_of old) stop.image later slot boot → WasGiven old missing slot boot ⊎ IsNextOf r nvrams boot

-- The record may be given still, in conditions that tell what has failed by then, where it might be when the store began.
abbrev pub StillGiven : Shelved → Register → List Bool → Content → Stop → Type 0
StillGiven old r nvrams held stop = (missing : Conditions) (arrays : List Array) → MayStore old r nvrams missing held arrays
    → (later : Conditions) → AccountsFor old (drives_of r) missing (next_slot r.record) (spelling r.record) stop.faults stop.write_faults later
    → ((start : Stop) → MayStop old start → MayBeGiven (geometry_of old) start.image later (own_slot r.record) r.record)
    → MayBeGiven (geometry_of old) stop.image later (own_slot r.record) r.record

-- Conditions in which each drive that is sound was a member, and no call on it has failed since; and each such NVRAM device is one that the record and the next one name.
pub record AreOfMembers (old : Shelved) (r : Register) (nvrams : List Bool) (missing : Conditions) (stop : Stop) (back : Conditions) : Type 0 where
  pub bearable : IsBearable (geometry_of old) back
  pub on_drives : (i : ℕ) → i < old.drives → back (drive i) ≡ Sound → IsMember (drives_of r) i × (has_risen (old.disk (drive i)).faults (stop.faults (drive i)) ≡ false)
  pub on_nvram : (n : ℕ) → n < 2 → back (nvram n) ≡ Sound → nv.IsMember nvrams n × (names r.record (nvram n) ≡ true)
  pub left_out : (n : ℕ) → back (nvram n) ≡ LeftOut → (nv.IsMember nvrams n → ⊥) × (names r.record (nvram n) ≡ false)
  pub unnamed : (i : ℕ) → back (drive i) ≡ LeftOut → names r.record (drive i) ≡ false
  -- one that the record names, and the next one doesn't, is as it was
  pub dropped : (n : ℕ) → n < 2 → names r.record (nvram n) ≡ true → (nv.IsMember nvrams n → ⊥) → back (nvram n) ≡ missing (nvram n)

-- the devices stand for the arrays in all such conditions, and what may be given is the record or a next one
pub record StandsBack (old : Shelved) (r : Register) (nvrams : List Bool) (held : Content) (stop : Stop) : Type 0 where
  pub each : (missing : Conditions) (arrays : List Array) → MayStore old r nvrams missing held arrays → (back : Conditions) → AreOfMembers old r nvrams missing stop back
      → Stands (geometry_of old) stop.image back arrays × ((slot : BootSlot) (boot : BootRecord) → MayBeGiven (geometry_of old) stop.image back slot boot → (boot ≡ r.record) ⊎ IsNextOf r nvrams boot)

-- each of the drives shows the record, as reads give it
abbrev pub AllShow : Shelved → Register → Type 0
AllShow shelf r = (i : ℕ) → IsMember (drives_of r) i → shown_by (own_slot r.record) (shelf.disk (drive i)).bytes ≡ Some (spelling r.record)

-- a stop in a store, whatever the conditions of the devices
pub record IsInStoreOf (old : Shelved) (r : Register) (nvrams : List Bool) (stop : Stop) : Type 0 where
  pub stands : (missing : Conditions) (held : Content) (arrays : List Array) → MayStore old r nvrams missing held arrays
      → StandsBut old (drives_of r) missing (next_slot r.record) r.record arrays stop
  pub gives : (missing : Conditions) (held : Content) (arrays : List Array) → MayStore old r nvrams missing held arrays → GivesOldOrNext old r nvrams missing stop
  -- the record in force isn't superseded yet, or the devices stand for the arrays by it and the next one, or by later ones
  pub back : (held : Content) → StandsInLog old r nvrams held → AllShow old r → StillGiven old r nvrams held stop ⊎ StandsBack old r nvrams held stop

-- a record that may be given is this one
abbrev pub IsAlone : Shelved → Conditions → BootSlot → BootRecord → Type 0
IsAlone shelf missing slot boot = (stop : Stop) (slot2 : BootSlot) (boot2 : BootRecord) → MayStop shelf stop → MayBeGiven (geometry_of shelf) stop.image missing slot2 boot2 → (slot2 ≡ slot) × (boot2 ≡ boot)

-- The record alone is in force, on all that it names, and the devices stand for the array of the log, whatever the others show.
pub record IsOpen (shelf : Shelved) (r : Register) (nvrams : List Bool) (held : Content) : Type 0 where
  pub logged : StandsInLog shelf r nvrams held
  pub drives : r.record.members.drives ≡ r.drives
  pub nvrams_are : r.record.members.nvrams ≡ nvrams
  pub bearable : IsBearable (geometry_of shelf) (named_sound r.record)
  pub in_force : IsInForceOn shelf (drives_of r) (named_sound r.record) (next_slot r.record) r.record
  pub older : AreOlder shelf (named_sound r.record) (drives_of r) (next_slot r.record) (spelling r.record)
  pub stands : StandsNow shelf (named_sound r.record) (array_of held ∷ [])
  pub alone : IsAlone shelf (named_sound r.record) (own_slot r.record) r.record
