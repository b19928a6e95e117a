-- What a session asks of the devices at its entry, and what a takeover finds on them.
use Rattle.std.specs.Prelude.{◌≡◌, ◌≢◌, ◌⊎◌, ◌<◌, ◌-◌, ◌^◌, ℕ, Bool, true, List, [], Option, Some, None, if◌then◌else◌}
use Rattle.memory_spec.specs.Prelude.{Device, Geometry, Image, View, Conditions, Sound, LeftOut, IsOn, IsBearable, Array, BootRecord, BootSlot, Effective, names, IsNamedByNone, members_view, Stands, MayBeGiven}
use Rattle.world.specs.Prelude.{Shelved, Stop, MayStop, geometry_of, has_failed, losing}

-- ---- the entry

-- no record that may be given names a device that was left out
abbrev pub LeftOutAreNamedByNone : Geometry → Image → Conditions → Type 0
LeftOutAreNamedByNone shelf image missing = (d : Device) → missing d ≡ LeftOut → IsNamedByNone shelf image missing d

-- the generation of each record that may be given leaves room for others
abbrev pub HasRoom : Geometry → Image → Conditions → Type 0
HasRoom shelf image missing = (slot : BootSlot) (boot : BootRecord) → MayBeGiven shelf image missing slot boot → boot.generation < 2 ^ 48 - 16

-- the devices stand for the arrays, so that a session can go on from there
pub record IsStanding (shelf : Geometry) (image : Image) (missing : Conditions) (arrays : List Array) : Type 0 where
  pub stands : Stands shelf image missing arrays
  pub left_out : LeftOutAreNamedByNone shelf image missing

-- At the entry of a session: whatever a stop now leaves stands for the arrays, and nothing is dirty on devices that aren't missing.
pub record Enters (shelf : Shelved) (missing : Conditions) (arrays : List Array) : Type 0 where
  pub bearable : IsBearable (geometry_of shelf) missing
  pub stands : (stop : Stop) → MayStop shelf stop → Stands (geometry_of shelf) stop.image missing arrays
  pub clean : (d : Device) → missing d ≡ Sound → (shelf.disk d).dirty ≡ []
  pub left_out : (stop : Stop) → MayStop shelf stop → LeftOutAreNamedByNone (geometry_of shelf) stop.image missing
  pub room : (stop : Stop) → MayStop shelf stop → HasRoom (geometry_of shelf) stop.image missing

-- At the end of a session: whatever a stop now leaves stands for the arrays, and nothing is dirty on devices that aren't missing.
pub record IsLeft (shelf : Shelved) (missing : Conditions) (arrays : List Array) : Type 0 where
  pub standing : (stop : Stop) → MayStop shelf stop → IsStanding (geometry_of shelf) stop.image missing arrays
  pub clean : (d : Device) → missing d ≡ Sound → (shelf.disk d).dirty ≡ []

-- ---- the opening

-- what reads of the devices give now, and what was counted, given and taken so far
abbrev pub read_now : Shelved → Stop
read_now shelf = record {
  image = λ d. (shelf.disk d).bytes;
  faults = λ d. (shelf.disk d).faults;
  write_faults = λ d. (shelf.disk d).write_faults;
  output = shelf.output;
  taken = shelf.taken;
}

-- in a takeover a device on which a call failed is missing: by a stop since its beginning, and by its end
abbrev pub failed_by : Shelved → Stop → Conditions → Conditions
failed_by old stop missing = losing (has_failed (read_now old) stop) missing

abbrev pub failed_since : Shelved → Shelved → Conditions → Conditions
failed_since old new missing = failed_by old (read_now new) missing

-- what a takeover found: what each device showed it, its bytes or nothing, and the record that this gives
pub record Found (shelf : Geometry) (image : Image) : Type 0 where
  pub view : View
  pub shown : (d : Device) → (view d ≡ Some (image d)) ⊎ (view d ≡ None)
  pub effective : Effective shelf view

-- only a device of which a call failed showed nothing
abbrev pub OnlyFailedAreSilent : (Device → Bool) → View → Type 0
OnlyFailedAreSilent failed view = (d : Device) → view d ≡ None → failed d ≡ true

-- what those devices show of which no call failed
abbrev pub unfailed : (Device → Bool) → View → View
unfailed failed view = λ d. if failed d then None else view d

-- What becomes of a device in a takeover: it's sound, or it's left out where it is no member by the record that was found, or doesn't hold its body; only one of which a call failed may be missing in another way.
abbrev pub ComesOut : {shelf : Geometry} {image : Image} → Found shelf image → (Device → Bool) → Conditions → Device → Type 0
ComesOut found failed after d =
    (after d ≡ Sound) ⊎ ((after d ≡ LeftOut) × (members_view found.view found.effective d ≡ None)) ⊎ ((after d ≢ Sound) × (failed d ≡ true))

-- the conditions after a takeover
pub record IsTakenOver (shelf : Geometry) (image : Image) (found : Found shelf image) (failed : Device → Bool) (after : Conditions) : Type 0 where
  pub silent : OnlyFailedAreSilent failed found.view
  pub each : (d : Device) → IsOn shelf d → ComesOut found failed after d

-- each record that may be given is later than the one that was found: the takeover has stored its own
abbrev pub IsStoredSince : {shelf : Geometry} {image : Image} → Found shelf image → Stop → Conditions → Type 0
IsStoredSince {shelf} found stop now = (slot : BootSlot) (boot : BootRecord) → MayBeGiven shelf stop.image now slot boot → found.effective.boot.generation < boot.generation

-- So it comes out, or it's one that the record names but that doesn't hold its body: it may be missing still, with no mark, while that record may be given again.
abbrev pub ComesBack : {shelf : Geometry} {image : Image} → Found shelf image → (Device → Bool) → Conditions → Device → Type 0
ComesBack found failed after d =
    ComesOut found failed after d ⊎ ((after d ≢ Sound) × (names found.effective.boot d ≡ true) × (members_view found.view found.effective d ≡ None))

-- Then, once each device has shown what was found, the devices that it found as members are back: the devices stand for the arrays though others have gone missing.
abbrev pub AreBack : (old : Shelved) → Found (geometry_of old) (read_now old).image → Conditions → List Array → Stop → Type 0
AreBack old found missing arrays stop = IsBearable (geometry_of old) (failed_by old stop missing)
    → OnlyFailedAreSilent (has_failed (read_now old) stop) found.view → IsStoredSince found stop (failed_by old stop missing)
    → (after : Conditions) × ((d : Device) → IsOn (geometry_of old) d → ComesBack found (has_failed (read_now old) stop) after d)
    × (IsBearable (geometry_of old) after → IsStanding (geometry_of old) stop.image after arrays)

-- nothing was stored: no record may be given that couldn't be at the entry
abbrev pub IsUnstored : Shelved → Conditions → Stop → Type 0
IsUnstored old missing stop = (slot : BootSlot) (boot : BootRecord)
    → MayBeGiven (geometry_of old) stop.image (failed_by old stop missing) slot boot → MayBeGiven (geometry_of old) (read_now old).image missing slot boot

-- what was stored, by the record that was found, if one was
abbrev pub IsStoredOver : (old : Shelved) → Option (Found (geometry_of old) (read_now old).image) → Conditions → List Array → Stop → Type 0
IsStoredOver old None missing arrays stop = IsUnstored old missing stop
IsStoredOver old (Some found) missing arrays stop = AreBack old found missing arrays stop

-- At a stop in the opening the devices still stand for the arrays, as long as what has failed by then is borne.
pub record StandsStill (old : Shelved) (found : Option (Found (geometry_of old) (read_now old).image)) (missing : Conditions) (arrays : List Array) (stop : Stop) : Type 0 where
  pub standing : IsBearable (geometry_of old) (failed_by old stop missing) → IsStanding (geometry_of old) stop.image (failed_by old stop missing) arrays
  pub stored : IsStoredOver old found missing arrays stop
