-- What a store does to the devices, and what its caller has to know of the record.
use Rattle.std.specs.Prelude.{◌≡◌, ◌⊎◌, ◌*◌, ◌+◌, ◌<◌, ◌≤◌, ℕ, Bool, false, List, [], length, count_by, Some, None, IfSome}
use Rattle.array_spec.specs.Prelude.{Device, BOOT_UNITS, Geometry, Image, View, Conditions, Sound, IsBearable, IsWithin, slots_of, drive, nvram, is_open, Array, BootRecord, set_count, spelling, BootSlot, IsRecordOf, IsEffective, other_slot, gate_place, body_in, shown_by, generation_in, Yields, Stands, MayBeGiven, IsReadInto, FollowsOn, DiffersOnlyIn, is_sound_vote}
use Rattle.world.specs.Prelude.{Shelved, Stop, MayStop, LeavesOnly, geometry_of, has_risen, IsLater}
use Rattle.boot_region.specs.Members.{IsMember}

-- ---- the members, as reads give them

-- at whatever stop now, the devices stand for the arrays
abbrev pub StandsNow : Shelved → Conditions → List Array → Type 0
StandsNow shelf missing arrays = (stop : Stop) → MayStop shelf stop → Stands (geometry_of shelf) stop.image missing arrays

-- each drive that isn't missing is a member
abbrev pub SoundAreMembers : Shelved → Conditions → List Bool → Type 0
SoundAreMembers shelf missing members = (i : ℕ) → i < shelf.drives → missing (drive i) ≡ Sound → IsMember members i

-- it's so of each member that isn't missing
abbrev pub OnSound : Conditions → List Bool → (ℕ → Type 0) → Type 0
OnSound missing members P = (i : ℕ) → IsMember members i → missing (drive i) ≡ Sound → P i

-- nothing is dirty on them
abbrev pub AreClean : Shelved → Conditions → List Bool → Type 0
AreClean shelf missing members = OnSound missing members (λ i. (shelf.disk (drive i)).dirty ≡ [])

-- the gates of a slot are closed on them
abbrev pub AreClosed : Shelved → Conditions → List Bool → BootSlot → Type 0
AreClosed shelf missing members slot = OnSound missing members (λ i. is_open (gate_place slot) (shelf.disk (drive i)).bytes ≡ false)

-- the body stands on them
abbrev pub AreWritten : Shelved → Conditions → List Bool → BootSlot → List ℕ → Type 0
AreWritten shelf missing members slot body = OnSound missing members (λ i. body_in slot (shelf.disk (drive i)).bytes ≡ body)

-- they show the body
abbrev pub AreShown : Shelved → Conditions → List Bool → BootSlot → List ℕ → Type 0
AreShown shelf missing members slot body = OnSound missing members (λ i. shown_by slot (shelf.disk (drive i)).bytes ≡ Some body)

-- the drive shows the body, and nothing of it is dirty
pub record Shows (shelf : Shelved) (slot : BootSlot) (body : List ℕ) (i : ℕ) : Type 0 where
  pub clean : (shelf.disk (drive i)).dirty ≡ []
  pub shown : shown_by slot (shelf.disk (drive i)).bytes ≡ Some body

-- what stands in the slot of a drive loses against the record of the other slot
abbrev pub IsOlder : Shelved → BootSlot → List ℕ → ℕ → Type 0
IsOlder shelf slot held i = Yields (other_slot slot) (generation_in (body_in slot (shelf.disk (drive i)).bytes)) (generation_in held)

-- so on each member that isn't missing
abbrev pub AreOlder : Shelved → Conditions → List Bool → BootSlot → List ℕ → Type 0
AreOlder shelf missing members slot held = OnSound missing members (IsOlder shelf slot held)

-- what the drives that aren't missing show in the other slot loses against this record, or so few show it that two more don't help it
abbrev pub OthersLose : Shelved → Image → Conditions → BootSlot → List ℕ → Type 0
OthersLose shelf image missing slot body = (other : List ℕ) → Yields slot (generation_in other) (generation_in body)
    ⊎ (2 * (count_by (is_sound_vote image missing (other_slot slot) other) (slots_of (geometry_of shelf)) + 2) ≤ shelf.drives)

-- ---- the phases, as a stop in them leaves the devices

-- the images differ only in boot units
abbrev pub OnlyBoot : Image → Image → Type 0
OnlyBoot old new = DiffersOnlyIn (λ i unit. unit < BOOT_UNITS) old new

-- a stop leaves what R makes of what a stop at the beginning might have left
pub record ComesOf (old : Shelved) (R : Stop → Stop → Type 0) (stop : Stop) : Type 0 where
  pub start : Stop
  pub may : MayStop old start
  pub later : IsLater start stop
  pub by : R start stop

-- each stop does
abbrev pub LeavesBy : Shelved → Shelved → (Stop → Stop → Type 0) → Type 0
LeavesBy old new R = LeavesOnly old new (ComesOf old R)

-- a gate that read as closed isn't written; another may come to stand open over the body behind it
pub record Closes (shelf : Shelved) (members : List Bool) (missing : Conditions) (slot : BootSlot) (held : List ℕ) (start stop : Stop) : Type 0 where
  pub only_boot : OnlyBoot start.image stop.image
  pub bodies : (t : BootSlot) (i : ℕ) → body_in t (stop.image (drive i)) ≡ body_in t (start.image (drive i))
  pub others : (i : ℕ) → shown_by (other_slot slot) (stop.image (drive i)) ≡ shown_by (other_slot slot) (start.image (drive i))
  pub closes : (i : ℕ) → missing (drive i) ≡ Sound → (IsMember members i → IsOlder shelf slot held i ⊎ (has_risen (shelf.disk (drive i)).faults (stop.faults (drive i)) ≡ false))
      → (shown_by slot (stop.image (drive i)) ≡ shown_by slot (start.image (drive i)))
      ⊎ IfSome (shown_by slot (stop.image (drive i))) (λ body. Yields (other_slot slot) (generation_in body) (generation_in held))

-- the gates of the members stay closed, and nothing else changes
pub record Writes (missing : Conditions) (members : List Bool) (slot : BootSlot) (start stop : Stop) : Type 0 where
  pub only_boot : OnlyBoot start.image stop.image
  pub bodies : (i : ℕ) → body_in (other_slot slot) (stop.image (drive i)) ≡ body_in (other_slot slot) (start.image (drive i))
  pub others : (i : ℕ) → shown_by (other_slot slot) (stop.image (drive i)) ≡ shown_by (other_slot slot) (start.image (drive i))
  pub shut : (i : ℕ) → missing (drive i) ≡ Sound → (shown_by slot (stop.image (drive i)) ≡ None) ⊎ (shown_by slot (stop.image (drive i)) ≡ shown_by slot (start.image (drive i)))
  pub none : OnSound missing members (λ i. shown_by slot (stop.image (drive i)) ≡ None)

-- gates are opened over the body
pub record Opens (missing : Conditions) (members : List Bool) (slot : BootSlot) (body : List ℕ) (start stop : Stop) : Type 0 where
  pub only_boot : OnlyBoot start.image stop.image
  pub bodies : (t : BootSlot) (i : ℕ) → body_in t (stop.image (drive i)) ≡ body_in t (start.image (drive i))
  pub others : (i : ℕ) → shown_by (other_slot slot) (stop.image (drive i)) ≡ shown_by (other_slot slot) (start.image (drive i))
  pub opens : (i : ℕ) → missing (drive i) ≡ Sound → (shown_by slot (stop.image (drive i)) ≡ shown_by slot (start.image (drive i)))
      ⊎ ((shown_by slot (stop.image (drive i)) ≡ Some body) × (shown_by slot (start.image (drive i)) ≡ None))
  pub stands : OnSound missing members (λ i. body_in slot (stop.image (drive i)) ≡ body)
  pub shut : OnSound missing members (λ i. shown_by slot (start.image (drive i)) ≡ None)

-- ---- what the layer above says

-- the record is in force: it stands in the other slot than the next one goes to, shown by each drive that isn't missing
pub record IsInForceOn (shelf : Shelved) (members : List Bool) (missing : Conditions) (next : BootSlot) (boot : BootRecord) : Type 0 where
  pub lawful : IsRecordOf (geometry_of shelf) boot
  pub sound : SoundAreMembers shelf missing members
  pub clean : AreClean shelf missing members
  pub shown : AreShown shelf missing members (other_slot next) (spelling boot)
  pub given : (start : Stop) → MayStop shelf start → MayBeGiven (geometry_of shelf) start.image missing (other_slot next) boot

-- once its body stands on the drives that aren't missing, the record is read into the arrays, and it follows on from what may be given now
pub record MayFollow (shelf : Shelved) (missing : Conditions) (slot : BootSlot) (boot : BootRecord) (arrays : List Array) : Type 0 where
  pub lawful : IsRecordOf (geometry_of shelf) boot
  pub stands : StandsNow shelf missing arrays
  pub reads : (later : Conditions) (start stop : Stop) → IsWithin missing later → IsBearable (geometry_of shelf) later → MayStop shelf start → OnlyBoot start.image stop.image
      → ((i : ℕ) → i < shelf.drives → later (drive i) ≡ Sound → body_in slot (stop.image (drive i)) ≡ spelling boot)
      → (s : Stands (geometry_of shelf) start.image missing arrays)
      → (r : IsReadInto (geometry_of shelf) stop.image later slot boot arrays)
      × ((slot2 : BootSlot) (boot2 : BootRecord) (g : MayBeGiven (geometry_of shelf) start.image missing slot2 boot2)
      → FollowsOn (geometry_of shelf) stop.image later slot boot boot2 r.base (s.reads slot2 boot2 g).base
      × FollowsOn (geometry_of shelf) stop.image later slot2 boot2 boot (s.reads slot2 boot2 g).base r.base)

-- the later conditions tell what has failed by then: a member that is sound still lost no write, and what a failed read of its gate might let be shown loses against the record in force
pub record AccountsFor (shelf : Shelved) (members : List Bool) (missing : Conditions) (slot : BootSlot) (held : List ℕ) (faults write_faults : Device → ℕ) (later : Conditions) : Type 0 where
  pub within : IsWithin missing later
  pub bearable : IsBearable (geometry_of shelf) later
  pub writes : OnSound later members (λ i. (has_risen (shelf.disk (drive i)).faults (faults (drive i)) ≡ false) ⊎ (has_risen (shelf.disk (drive i)).write_faults (write_faults (drive i)) ≡ false))
  pub reads : OnSound later members (λ i. IsOlder shelf slot held i ⊎ (has_risen (shelf.disk (drive i)).faults (faults (drive i)) ≡ false))

-- the devices stand for the arrays, in all conditions that tell what has failed by then
abbrev pub StandsBut : Shelved → List Bool → Conditions → BootSlot → BootRecord → List Array → Stop → Type 0
StandsBut shelf members missing slot held arrays stop = (later : Conditions) → AccountsFor shelf members missing slot (spelling held) stop.faults stop.write_faults later → Stands (geometry_of shelf) stop.image later arrays

-- the record might have been given when it began
pub record WasGiven (old : Shelved) (missing : Conditions) (slot : BootSlot) (boot : BootRecord) : Type 0 where
  pub start : Stop
  pub may : MayStop old start
  pub given : MayBeGiven (geometry_of old) start.image missing slot boot

-- no record may be given then that might not have been
abbrev pub GivesNoMore : Shelved → Conditions → Conditions → Stop → Type 0
GivesNoMore old missing later stop = (slot : BootSlot) (boot : BootRecord) → MayBeGiven (geometry_of old) stop.image later slot boot → WasGiven old missing slot boot

-- none but the record that is stored, in all conditions that tell what has failed by then
abbrev pub GivesOldOrNew : Shelved → List Bool → Conditions → BootSlot → BootRecord → BootRecord → Stop → Type 0
GivesOldOrNew old members missing slot held boot stop = (later : Conditions) → AccountsFor old members missing slot (spelling held) stop.faults stop.write_faults later
    → (slot2 : BootSlot) (boot2 : BootRecord) → MayBeGiven (geometry_of old) stop.image later slot2 boot2 → ((slot2 ≡ slot) × (boot2 ≡ boot)) ⊎ WasGiven old missing slot2 boot2

-- The record in force may be given still, in conditions that tell what has failed by then, where it might be when the store began.
abbrev pub HeldStill : Shelved → List Bool → BootSlot → Stop → Type 0
HeldStill old members slot stop = (missing : Conditions) (held : BootRecord) → IsInForceOn old members missing slot held
    → (later : Conditions) → AccountsFor old members missing slot (spelling held) stop.faults stop.write_faults later
    → ((start : Stop) → MayStop old start → MayBeGiven (geometry_of old) start.image later (other_slot slot) held)
    → MayBeGiven (geometry_of old) stop.image later (other_slot slot) held

-- Gates are opened over the body: it stands on each member on which no call has failed, and is shown there or nothing is. What the other slot shows has stayed.
pub record IsOpening (old : Shelved) (members : List Bool) (slot : BootSlot) (body : List ℕ) (stop : Stop) : Type 0 where
  pub start : Stop
  pub may : MayStop old start
  pub only_boot : OnlyBoot start.image stop.image
  pub others : (i : ℕ) → shown_by (other_slot slot) (stop.image (drive i)) ≡ shown_by (other_slot slot) (start.image (drive i))
  pub written : (i : ℕ) → IsMember members i → has_risen (old.disk (drive i)).faults (stop.faults (drive i)) ≡ false
      → (body_in slot (stop.image (drive i)) ≡ body) × ((shown_by slot (stop.image (drive i)) ≡ None) ⊎ (shown_by slot (stop.image (drive i)) ≡ Some body))
  -- such a member was synced meanwhile: its other slot is as reads gave it when the store began
  pub kept : (i : ℕ) → IsMember members i → has_risen (old.disk (drive i)).faults (stop.faults (drive i)) ≡ false
      → shown_by (other_slot slot) (stop.image (drive i)) ≡ shown_by (other_slot slot) (old.disk (drive i)).bytes

-- a stop in a store, whatever the conditions of the devices
pub record IsInStore (old : Shelved) (members : List Bool) (slot : BootSlot) (body : List ℕ) (stop : Stop) : Type 0 where
  pub stands : (missing : Conditions) (held boot : BootRecord) (arrays : List Array) → body ≡ spelling boot → IsInForceOn old members missing slot held → MayFollow old missing slot boot arrays
      → StandsBut old members missing slot held arrays stop
  pub gives : (missing : Conditions) (held boot : BootRecord) (arrays : List Array) → body ≡ spelling boot → IsInForceOn old members missing slot held → MayFollow old missing slot boot arrays
      → GivesOldOrNew old members missing slot held boot stop
  -- the record in force isn't superseded yet, or gates are opened over the new one
  pub phase : HeldStill old members slot stop ⊎ IsOpening old members slot body stop

-- the record that is stored wins over the one in force
abbrev pub IsNewer : BootSlot → BootRecord → BootRecord → Type 0
IsNewer slot held boot = Yields slot (generation_in (spelling held)) (generation_in (spelling boot))

-- the record is in force on the members that are left, what it replaces is older, and the devices stand for the arrays
pub record IsStored (new : Shelved) (members : List Bool) (slot : BootSlot) (boot : BootRecord) (arrays : List Array) (later : Conditions) : Type 0 where
  pub in_force : IsInForceOn new members later (other_slot slot) boot
  pub older : AreOlder new later members (other_slot slot) (spelling boot)
  pub stands : StandsNow new later arrays

-- so in all conditions that tell what failed in the call
abbrev pub IsStoredIn : Shelved → Shelved → List Bool → List Bool → Conditions → BootSlot → BootRecord → BootRecord → List Array → Type 0
IsStoredIn old new was now missing slot held boot arrays = (later : Conditions)
    → AccountsFor old was missing slot (spelling held) (λ d. (new.disk d).faults) (λ d. (new.disk d).write_faults) later
    → IsStored new now slot boot arrays later

-- the record was loaded: it may be given, and its body stands on the members that aren't missing, with nothing dirty
pub record IsLoaded (shelf : Shelved) (members : List Bool) (missing : Conditions) (slot : BootSlot) (boot : BootRecord) (arrays : List Array) : Type 0 where
  pub lawful : IsRecordOf (geometry_of shelf) boot
  pub clean : AreClean shelf missing members
  pub written : AreWritten shelf missing members slot (spelling boot)
  pub stands : StandsNow shelf missing arrays
  pub given : (start : Stop) → MayStop shelf start → MayBeGiven (geometry_of shelf) start.image missing slot boot

-- a view gives the record, in which each device that isn't missing shows itself
pub record IsSeen (shelf : Geometry) (image : Image) (missing : Conditions) (slot : BootSlot) (boot : BootRecord) : Type 0 where
  pub view : View
  pub shown : (device : Device) → missing device ≡ Sound → view device ≡ Some (image device)
  pub effective : IsEffective shelf view slot (spelling boot)

-- each drive that isn't missing is a member, and the record was seen
pub record IsFound (shelf : Shelved) (members : List Bool) (missing : Conditions) (slot : BootSlot) (boot : BootRecord) : Type 0 where
  pub sound : SoundAreMembers shelf missing members
  pub seen : (start : Stop) → MayStop shelf start → IsSeen (geometry_of shelf) start.image missing slot boot

-- the later conditions tell each member on which a call failed
pub record TellsFailed (shelf : Shelved) (members : List Bool) (missing : Conditions) (faults : Device → ℕ) (later : Conditions) : Type 0 where
  pub within : IsWithin missing later
  pub bearable : IsBearable (geometry_of shelf) later
  pub calls : OnSound later members (λ i. has_risen (shelf.disk (drive i)).faults (faults (drive i)) ≡ false)

-- ---- whatever fails

-- no more than two drives of the shelf are missing from the members
abbrev pub AreEnough : List Bool → Type 0
AreEnough members = length members ≤ set_count members + 2

-- A store may begin of which nothing is lost, whatever fails: the members are the sound drives of the shelf, the record in force stands on them, and what the slot of the next one holds is older.
pub record IsFirmOn (shelf : Shelved) (members : List Bool) (missing : Conditions) (next : BootSlot) (held : BootRecord) : Type 0 where
  pub in_force : IsInForceOn shelf members missing next held
  pub as_many : length members ≡ shelf.drives
  pub sound : (i : ℕ) → IsMember members i → missing (drive i) ≡ Sound
  pub older : AreOlder shelf missing members next (spelling held)

-- At a stop, whatever has failed by then: once the devices answer again with what they hold, these stand for the arrays where no more of them are taken for missing than is borne.
pub record StandsAgain (old : Shelved) (missing : Conditions) (arrays : List Array) (stop : Stop) : Type 0 where
  pub later : Conditions
  pub within : IsWithin missing later
  pub logs : (n : ℕ) → later (nvram n) ≡ missing (nvram n)
  pub stands : Stands (geometry_of old) stop.image later arrays

-- in all borne conditions in which each drive that isn't missing is a member still the record is stored
abbrev pub IsStoredOn : Shelved → Shelved → List Bool → Conditions → BootSlot → BootRecord → List Array → Type 0
IsStoredOn old new now missing slot boot arrays = (later : Conditions) → IsWithin missing later → IsBearable (geometry_of old) later → SoundAreMembers new later now → IsStored new now slot boot arrays later
