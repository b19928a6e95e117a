-- What is loaded, by the boot units that were read.
use Rattle.std.specs.Prelude.{◌≡◌, ◌+◌, ◌-◌, ◌^◌, ◌<◌, ◌≤◌, ◌&&◌, ℕ, Bool, false, List, length, slice_index_or, Result, Ok, Err, ⊤}
use Rattle.array_spec.specs.Prelude.{Geometry, Conditions, IsBearable, Array, BadRecord, ReadError, BootRecord, read_record, set_count, BootSlot, IsRecordOf, IsEffective, spelling}
use Rattle.boot_codec.specs.declared.bad_record.ReadError.TheVariants as errors
use Rattle.world.specs.Prelude.{geometry_of, Shelved}
use Rattle.boot_region.specs.declared.loading.Loaded.{Loaded}
use Rattle.boot_region.specs.declared.loading.LoadFault.{LoadFault}
use Rattle.boot_region.specs.declared.loading.LoadFault.TheVariants as faults
use Rattle.boot_region.specs.Regions.{seen, is_holding, GivesNone, IsRead}
use Rattle.boot_region.specs.Members.{IsMember}
use Rattle.boot_region.specs.Slots.{slot_in}
use Rattle.boot_region.specs.Storing.{SoundAreMembers, AreClean, StandsNow, IsLoaded, IsFound}

-- the fault of a record that can't be read
abbrev pub fault_of : ReadError → LoadFault
fault_of (errors.Bad e) = faults.BadRecord e
fault_of (errors.Memory m) = faults.Memory m

-- of the drives that the record names, those that hold it
abbrev pub AreHolding : List ℕ → List Bool → BootSlot → BootRecord → List Bool → Type 0
AreHolding bytes answered slot boot drives = (i : ℕ) → slice_index_or drives i false ≡ (slice_index_or boot.members.drives i false && is_holding bytes answered slot (spelling boot) i)

-- the record is lawful and in force, and these drives hold it
pub record IsHeld (shelf : Geometry) (bytes : List ℕ) (answered : List Bool) (slot : BootSlot) (boot : BootRecord) (drives : List Bool) : Type 0 where
  pub lawful : IsRecordOf shelf boot
  pub effective : IsEffective shelf (seen bytes answered) slot (spelling boot)
  pub drives_are : AreHolding bytes answered slot boot drives

-- it was loaded: it leaves room for later ones, and at most two drives of the shelf don't hold it
pub record IsGiven (shelf : Geometry) (bytes : List ℕ) (answered : List Bool) (x : Loaded) : Type 0 where
  pub held : IsHeld shelf bytes answered (slot_in x.slot) x.record x.drives
  pub room : x.record.generation < 2 ^ 48 - 8
  pub enough : shelf.slots ≤ set_count x.drives + 2

-- the record is one of the shelf's, leaves room for later ones, and names the drives that hold it
pub record IsLawfulLoad (shelf : Geometry) (x : Loaded) : Type 0 where
  pub lawful : IsRecordOf shelf x.record
  pub room : x.record.generation < 2 ^ 48 - 8
  pub named : (i : ℕ) → IsMember x.drives i → IsMember x.record.members.drives i

-- a lawful record is in force, and more than two drives don't hold it
pub record TooFewHold (shelf : Geometry) (bytes : List ℕ) (answered : List Bool) (drives : List Bool) : Type 0 where
  pub slot : BootSlot
  pub boot : BootRecord
  pub held : IsHeld shelf bytes answered slot boot drives
  pub too_few : set_count drives + 2 < shelf.slots

-- a lawful record is in force that leaves no room for later ones
pub record IsSpent (shelf : Geometry) (bytes : List ℕ) (answered : List Bool) : Type 0 where
  pub slot : BootSlot
  pub boot : BootRecord
  pub lawful : IsRecordOf shelf boot
  pub effective : IsEffective shelf (seen bytes answered) slot (spelling boot)
  pub spent : 2 ^ 48 - 8 ≤ boot.generation

-- the body in force is no record of the shelf, and this is its first fault
pub record IsBadBody (shelf : Geometry) (bytes : List ℕ) (answered : List Bool) (fault : BadRecord) : Type 0 where
  pub slot : BootSlot
  pub body : List ℕ
  pub effective : IsEffective shelf (seen bytes answered) slot body
  pub exact : ◌≡◌ {A = Result BootRecord BadRecord} (read_record shelf.slots shelf.units body) (Err fault)

-- why nothing was loaded
abbrev pub IsFaultOf : Geometry → List ℕ → List Bool → LoadFault → Type 0
IsFaultOf shelf bytes answered (faults.Memory m) = ⊤
IsFaultOf shelf bytes answered faults.NoArray = GivesNone shelf (seen bytes answered)
IsFaultOf shelf bytes answered (faults.BadRecord e) = IsBadBody shelf bytes answered e
IsFaultOf shelf bytes answered faults.Spent = IsSpent shelf bytes answered
IsFaultOf shelf bytes answered (faults.TooFew drives) = TooFewHold shelf bytes answered drives

-- the same of either answer
abbrev pub IsAnswerOf : Geometry → List ℕ → List Bool → Result Loaded LoadFault → Type 0
IsAnswerOf shelf bytes answered (Ok x) = IsGiven shelf bytes answered x
IsAnswerOf shelf bytes answered (Err e) = IsFaultOf shelf bytes answered e

-- each drive answered with its boot units or its count of faults rose, and what was loaded is what those units give
pub record IsLoadBy (old new : Shelved) (result : Result Loaded LoadFault) : Type 0 where
  pub bytes : List ℕ
  pub answered : List Bool
  pub all : length answered ≡ old.drives
  pub read : (i : ℕ) → i < old.drives → IsRead old new bytes answered i
  pub answer : IsAnswerOf (geometry_of old) bytes answered result

-- or there was no memory
abbrev pub IsLoadOf : Shelved → Shelved → Result Loaded LoadFault → Type 0
IsLoadOf old new (Err (faults.Memory m)) = ⊤
IsLoadOf old new result = IsLoadBy old new result

-- what is known of the devices after the loading: each drive that isn't missing is one of those that hold the record, and nothing is dirty on it
pub record TellsHolding (shelf : Shelved) (drives : List Bool) (missing : Conditions) : Type 0 where
  pub bearable : IsBearable (geometry_of shelf) missing
  pub holding : SoundAreMembers shelf missing drives
  pub clean : AreClean shelf missing drives

-- then the record may be settled: it was seen in force, and it stands on them
abbrev pub MayBeSettled : Shelved → Loaded → Type 0
MayBeSettled shelf x = (missing : Conditions) (arrays : List Array) → TellsHolding shelf x.drives missing → StandsNow shelf missing arrays
    → IsLoaded shelf x.drives missing (slot_in x.slot) x.record arrays × IsFound shelf x.drives missing (slot_in x.slot) x.record
