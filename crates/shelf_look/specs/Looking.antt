-- What a look tells of a shelf.
use Rattle.std.specs.Prelude.{◌≡◌, ◌⊎◌, ℕ, ◌<◌, Bool, true, false, List, length, slice_index_or, Option, Some, None, Result, Ok, Err}
use Rattle.session_spec.specs.Prelude.{Geometry, Status, BadRecord, BootRecord, geometry_of, Shelved}
use Rattle.pur_base.specs.declared.reply.Status.TheVariants as status
use Rattle.boot_region.specs.Prelude.{IsHeld, IsBadBody, GivesNone, IsRead, seen as shown, slot_in}
use Rattle.shelf_look.specs.declared.cause.Cause.{Cause}
use Rattle.shelf_look.specs.declared.cause.Cause.TheVariants as cause
use Rattle.shelf_look.specs.declared.drives.DriveState.{DriveState}
use Rattle.shelf_look.specs.declared.drives.DriveState.TheVariants.{Holding, Other, LeftOut, Silent}
use Rattle.shelf_look.specs.declared.finding.Opening.{Opening}
use Rattle.shelf_look.specs.declared.found.Found.{Found}
use Rattle.shelf_look.specs.declared.looking.Looked.{Looked}
use Rattle.shelf_look.specs.declared.record.RecordSeen.{RecordSeen}
use Rattle.shelf_look.specs.Causes.{status_of}
use Rattle.shelf_look.specs.Found.{IsFoundOf}
use Rattle.shelf_look.specs.Opening.{IsCauseOf, IsOpeningOf}
use Rattle.shelf_look.specs.Sides.{AreSides}

-- ---- the record

-- the regions give that record, lawful and in force, and these drives that it names hold it
pub record IsSeenIn (shelf : Geometry) (bytes : List ℕ) (answered : List Bool) (r : RecordSeen) : Type 0 where
  pub boot : BootRecord
  pub held : IsHeld shelf bytes answered (slot_in r.slot) boot r.holding
  pub generation : r.generation ≡ boot.generation
  pub flushed : r.flushed ≡ boot.flushed
  pub members : r.members ≡ boot.members

-- so it is, or they give no record, or one that isn't lawful
abbrev pub IsRecordSeen : Geometry → List ℕ → List Bool → Option RecordSeen → Type 0
IsRecordSeen shelf bytes answered (Some r) = IsSeenIn shelf bytes answered r
IsRecordSeen shelf bytes answered None = GivesNone shelf (shown bytes answered) ⊎ ((fault : BadRecord) × IsBadBody shelf bytes answered fault)

-- ---- the drives

-- what a drive showed that the record names or doesn't, that holds it or doesn't, and that answered or didn't
abbrev pub state_of : Bool → Bool → Bool → DriveState
state_of named holding false = Silent
state_of false holding true = LeftOut
state_of true true true = Holding
state_of true false true = Other

-- whether the record names a drive; where there is none, each shows another one or none
abbrev pub is_named_by : Option RecordSeen → ℕ → Bool
is_named_by (Some r) slot = slice_index_or r.members.drives slot false
is_named_by None slot = true

-- whether a drive holds it
abbrev pub is_held_by : Option RecordSeen → ℕ → Bool
is_held_by (Some r) slot = slice_index_or r.holding slot false
is_held_by None slot = false

-- so the drive of a slot
unfoldable pub state_at : Option RecordSeen → List Bool → ℕ → DriveState
state_at seen answered slot = state_of (is_named_by seen slot) (is_held_by seen slot) (slice_index_or answered slot false)

-- each drive of the shelf in its state
abbrev pub AreStates : Option RecordSeen → List Bool → List DriveState → Type 0
AreStates seen answered states = (slot : ℕ) → slot < length answered → slice_index_or states slot Silent ≡ state_at seen answered slot

-- ---- the opening

-- what is told of an opening, or the cause for which there is none, which is never memory
abbrev pub IsTold : Result Opening Cause → Result Found Cause → Type 0
IsTold (Ok o) (Ok f) = IsFoundOf o f
IsTold (Err (cause.Memory m)) told = ⊥
IsTold (Err c) (Err d) = d ≡ c
IsTold opening told = ⊥

-- the boot regions, the drives and the NVRAM devices give that, or no array for that cause
abbrev pub IsOutcome : Shelved → Shelved → List ℕ → List Bool → Result Found Cause → Type 0
IsOutcome old new bytes answered (Ok f) = (o : Opening) × IsOpeningOf old new bytes answered o × IsFoundOf o f
IsOutcome old new bytes answered (Err (cause.Memory m)) = ⊥
IsOutcome old new bytes answered (Err c) = IsCauseOf old new bytes answered c

-- What the shelf shows, and what an opening would find: each drive answered with its boot region, or a call on it failed, and each NVRAM device with its slots of the log.
pub record IsLook (old new : Shelved) (x : Looked) : Type 0 where
  pub slots : x.slots ≡ old.drives
  pub units : x.units ≡ old.units
  pub bytes : List ℕ
  pub answered : List Bool
  pub all : length answered ≡ old.drives
  pub read : (i : ℕ) → i < old.drives → IsRead old new bytes answered i
  pub record_seen : IsRecordSeen (geometry_of old) bytes answered x.record
  pub drives : AreStates x.record answered x.drives
  pub logs : AreSides old new x.record x.logs
  pub outcome : IsOutcome old new bytes answered x.found

-- with that an opening ends, or begins to serve
abbrev pub status_of_found : Result Found Cause → Status
status_of_found (Ok f) = status.Done
status_of_found (Err c) = status_of c

abbrev pub end_of : Looked → Status
end_of x = status_of_found x.found
