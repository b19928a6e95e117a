-- What the layers need of these definitions.
use Rattle.std.specs.Prelude.{IfSome, ◌≡◌, ◌≢◌, ◌⊎◌, Bool, ◌&&◌, false, ℕ, ◌+◌, ◌*◌, ◌/◌, ◌<◌, ◌≤◌, List, [], ◌++◌, length, take, slice_index, slice_get, Some, None, is_none, Option, Contains, count_by}
use Rattle.boot_codec.specs.Prelude.{IsBytes, Geometry, Image, View, Conditions, Sound, Missing, LeftOut, MayShowAs, IsBearable, IsWithin, IsImage, slots_of, is_sound, drive, nvram, Device, Array, Command, AllAccepted, after_all, Facts, Reads, UNIT_BYTES, BOOT_UNITS, SLOTS_MIN, Target, AnyFact, spelling, BootSlot, Effective, IsEffective, IsRecordOf, IsDecided, is_vote, votes, Yields, other_slot, shown_by, body_in, generation_in, of_members, names, Place}
use Rattle.boot_codec.specs.declared.record.BootRecord.{BootRecord}
use Rattle.fact_codec.specs.Fact.{Decodes}
use Rattle.segment_codec.specs.Prelude.{SectorStands}
use Rattle.log_codec.specs.Prelude.{Shows, HasSpelling, Spells, LogStands}
use Rattle.array_spec.specs.Sound.{AreMediumsSound}
use Rattle.array_spec.specs.Stored.{all_facts}
use Rattle.array_spec.specs.Counts.{IsFree}
use Rattle.array_spec.specs.Meaning.{TablesStand, HoldsBase}
use Rattle.array_spec.specs.Standing.{Stands, EachViewMeans, MayAppear, IsViewOf, MayBeGiven, LeadsInto, IsReadInto, FollowsOn, HasNoLog}

-- two majorities share a voter
abbrev pub OneIsDecided : Type 0
OneIsDecided = (votes : List (Option (List ℕ))) (a b : List ℕ) → IsDecided votes a → IsDecided votes b → a ≡ b

-- a view gives one record
abbrev pub OneIsEffective : Type 0
OneIsEffective = (shelf : Geometry) (view : View) (slot slot2 : BootSlot) (a b : List ℕ) → IsEffective shelf view slot a → IsEffective shelf view slot2 b → (slot ≡ slot2) × (a ≡ b)

-- a sector of a medium reads as one target
abbrev pub ReadsOne : Type 0
ReadsOne = (facts : Facts) (medium sector : ℕ) (s t : Target) → AreMediumsSound facts → Reads facts medium sector s → Reads facts medium sector t → s ≡ t

-- what stands for arrays in one sense does so in the other
abbrev pub StandingMeans : Type 0
StandingMeans = (shelf : Geometry) (image : Image) (missing : Conditions) (arrays : List Array) → Stands shelf image missing arrays → EachViewMeans shelf image missing arrays

-- more may go missing
abbrev pub MoreMayGoMissing : Type 0
MoreMayGoMissing = (shelf : Geometry) (image : Image) (missing more : Conditions) (arrays : List Array)
    → IsWithin missing more → IsBearable shelf more → Stands shelf image missing arrays → Stands shelf image more arrays

-- a drive that isn't missing shows this body in the slot
abbrev pub is_sound_vote : Image → Conditions → BootSlot → List ℕ → ℕ → Bool
is_sound_vote image missing slot body i = is_sound (missing (drive i)) && is_vote body (shown_by slot (image (drive i)))

-- the record stands on each drive that isn't missing, under an open gate; one of the other slot that would win is shown by so few that two more don't help it
pub record IsHeld (shelf : Geometry) (image : Image) (missing : Conditions) (slot : BootSlot) (body : List ℕ) : Type 0 where
  pub shown : (i : ℕ) → i < shelf.slots → missing (drive i) ≡ Sound → shown_by slot (image (drive i)) ≡ Some body
  pub few : (other : List ℕ) → Yields slot (generation_in other) (generation_in body)
      ⊎ (2 * (count_by (is_sound_vote image missing (other_slot slot) other) (slots_of shelf) + 2) ≤ shelf.slots)

-- then each view gives it, whatever the missing devices show
abbrev pub HeldIsGiven : Type 0
HeldIsGiven = (shelf : Geometry) (image : Image) (missing more : Conditions) (view : View) (slot : BootSlot) (body : List ℕ)
    → SLOTS_MIN ≤ shelf.slots → IsHeld shelf image missing slot body → MayAppear shelf image missing more view → IsEffective shelf view slot body

-- the images differ only in the bytes of these units of drives
pub record DiffersOnlyIn (unit : ℕ → ℕ → Type 0) (old new : Image) : Type 0 where
  pub nvram : (i : ℕ) → new (nvram i) ≡ old (nvram i)
  pub size : (i : ℕ) → length (new (drive i)) ≡ length (old (drive i))
  pub drive : (i at : ℕ) → (slice_index (new (drive i)) at ≡ slice_index (old (drive i)) at) ⊎ unit i (at / UNIT_BYTES)

-- no record that may be given, with the facts that its patches hold in a view, uses the unit as a member's
pub record IsUnused (shelf : Geometry) (image : Image) (missing : Conditions) (slot unit : ℕ) : Type 0 where
  pub data_unit : BOOT_UNITS ≤ unit
  pub unused : (boot_slot : BootSlot) (boot : BootRecord) (more : Conditions) (view : View) (patches : List (List AnyFact))
      → MayBeGiven shelf image missing boot_slot boot → IsViewOf shelf image missing more view → TablesStand shelf (of_members boot_slot boot view) boot patches
      → IsFree boot (all_facts patches) slot unit ⊎ (names boot (drive slot) ≡ false)

-- a write in such units changes nothing that the devices stand for
abbrev pub QuietWrites : Type 0
QuietWrites = (shelf : Geometry) (old new : Image) (missing : Conditions) (arrays : List Array)
    → IsImage shelf new → DiffersOnlyIn (IsUnused shelf old missing) old new → Stands shelf old missing arrays → Stands shelf new missing arrays

-- the shown commands of each NVRAM device lie between two logs: one that isn't missing shows all of the first, and none shows what isn't in the second
pub record ShowsBetween (missing : Conditions) (members : View) (flushed : ℕ) (least most : List Command) : Type 0 where
  pub front : (rest : List Command) × (most ≡ least ++ rest)
  pub room : length most ≤ 64
  pub lawful : (i : ℕ) (c : Command) → slice_get most i ≡ Some c → HasSpelling (flushed + 1 + i) c
  pub one_sound : (device : ℕ) × (device < 2) × (missing (nvram device) ≡ Sound)
  pub all : (device i : ℕ) (c : Command) → device < 2 → missing (nvram device) ≡ Sound → slice_get least i ≡ Some c → Shows members device flushed i c
  pub no_other : (device i : ℕ) (c : Command) → Shows members device flushed i c → slice_get most i ≡ Some c

-- then the log is between them too, and so leads into arrays that hold all the arrays between. A stop in an append, of one command or of a group, leaves such devices
abbrev pub LogIsBetween : Type 0
LogIsBetween = (missing : Conditions) (members : View) (flushed : ℕ) (base : Array) (least most : List Command) (arrays : List Array)
    → AllAccepted base most → ShowsBetween missing members flushed least most
    → ((n : ℕ) → length least ≤ n → n ≤ length most → Contains arrays (after_all base (take n most)))
    → LeadsInto missing members flushed base arrays

-- a store, at any moment: what may be given is the new record, or might have been given before and still stands
pub record IsOldOrNew (shelf : Geometry) (old new : Image) (missing later : Conditions) (slot : BootSlot) (stored : BootRecord) : Type 0 where
  pub within : IsWithin missing later
  pub bearable : IsBearable shelf later
  pub only_boot : DiffersOnlyIn (λ drive unit. unit < BOOT_UNITS) old new
  pub gives : (more : Conditions) (view : View) → MayAppear shelf new later more view → Effective shelf view
  pub old_or_new : (s : BootSlot) (boot : BootRecord) → MayBeGiven shelf new later s boot
      → ((s ≡ slot) × (boot ≡ stored)) ⊎ (MayBeGiven shelf old missing s boot × ((i : ℕ) → body_in s (new (drive i)) ≡ body_in s (old (drive i))))

-- The new record may take an old one's place where each view reads it into the arrays and it follows on. So no array is lost at any moment of the store.
abbrev pub StoreKeeps : Type 0
StoreKeeps = (shelf : Geometry) (old new : Image) (missing later : Conditions) (slot : BootSlot) (stored : BootRecord) (arrays : List Array)
    → IsOldOrNew shelf old new missing later slot stored
    → (s : Stands shelf old missing arrays)
    → (r : IsReadInto shelf new later slot stored arrays)
    → ((slot2 : BootSlot) (boot : BootRecord) (g : MayBeGiven shelf old missing slot2 boot)
    → FollowsOn shelf new later slot stored boot r.base (s.reads slot2 boot g).base × FollowsOn shelf new later slot2 boot stored (s.reads slot2 boot g).base r.base)
    → Stands shelf new later arrays

-- two lawful records are spelled differently
abbrev pub SpellsOne : Geometry → Type 0
SpellsOne shelf = (a b : BootRecord) → IsRecordOf shelf a → IsRecordOf shelf b → spelling a ≡ spelling b → a ≡ b

-- on a shelf of any size
abbrev pub RecordsAreSpelledApart : Type 0
RecordsAreSpelledApart = (shelf : Geometry) → SpellsOne shelf

-- once a record is held and each view reads it into the arrays, the devices stand for them, whatever those that it leaves out show
abbrev pub HeldStands : Type 0
HeldStands = (shelf : Geometry) (image : Image) (missing : Conditions) (slot : BootSlot) (boot : BootRecord) (arrays : List Array)
    → SLOTS_MIN ≤ shelf.slots → IsBearable shelf missing → arrays ≢ [] → IsRecordOf shelf boot
    → IsHeld shelf image missing slot (spelling boot) → IsReadInto shelf image missing slot boot arrays → Stands shelf image missing arrays

-- the images differ only in the bytes of the NVRAM devices
pub record DiffersOnlyInNvram (old new : Image) : Type 0 where
  pub drive : (i : ℕ) → new (drive i) ≡ old (drive i)
  pub size : (i : ℕ) → length (new (nvram i)) ≡ length (old (nvram i))

-- a write to NVRAM: the devices stand for the arrays that each record's log then leads into
abbrev pub NvramKeeps : Type 0
NvramKeeps = (shelf : Geometry) (old new : Image) (missing later : Conditions) (arrays others : List Array)
    → IsWithin missing later → IsBearable shelf later → others ≢ [] → DiffersOnlyInNvram old new
    → (s : Stands shelf old missing arrays)
    → ((slot : BootSlot) (boot : BootRecord) (g : MayBeGiven shelf old missing slot boot) (more : Conditions) (view : View) → IsViewOf shelf new later more view
    → LeadsInto more (of_members slot boot view) boot.flushed (s.reads slot boot g).base others)
    → ((slot slot2 : BootSlot) (boot boot2 : BootRecord) → MayBeGiven shelf old missing slot boot → MayBeGiven shelf old missing slot2 boot2 → boot2.flushed < boot.flushed
    → (more : Conditions) (view : View) → IsViewOf shelf new later more view → HasNoLog (of_members slot boot view) boot.flushed)
    → Stands shelf new later others

-- tables that stand with all of a record's members do so with two fewer
abbrev pub FewerHold : Type 0
FewerHold = (shelf : Geometry) (more fewer : View) (boot : BootRecord) (base : Array) → IsRecordOf shelf boot
    → ((i : ℕ) → (fewer (drive i) ≡ more (drive i)) ⊎ (fewer (drive i) ≡ None))
    → count_by (λ i. is_none (fewer (drive i))) (slots_of shelf) ≤ 2
    → HoldsBase shelf more boot base → HoldsBase shelf fewer boot base

-- gates of a slot are opened over one body, as a settling does and the last phase of a store
pub record OpensGatesOf (old new : Image) (later : Conditions) (slot : BootSlot) (body : List ℕ) : Type 0 where
  pub others : (i : ℕ) → later (drive i) ≡ Sound → shown_by (other_slot slot) (new (drive i)) ≡ shown_by (other_slot slot) (old (drive i))
  pub opens : (i : ℕ) → later (drive i) ≡ Sound → (shown_by slot (new (drive i)) ≡ shown_by slot (old (drive i))) ⊎ ((shown_by slot (new (drive i)) ≡ Some body) × (shown_by slot (old (drive i)) ≡ None))

-- then that record may be given, or one that might have been before
abbrev pub OpeningGives : Type 0
OpeningGives = (shelf : Geometry) (old new : Image) (missing later : Conditions) (slot slot2 : BootSlot) (boot boot2 : BootRecord)
    → IsWithin missing later → OpensGatesOf old new later slot (spelling boot) → MayBeGiven shelf new later slot2 boot2
    → ((slot2 ≡ slot) × (spelling boot ≡ spelling boot2)) ⊎ MayBeGiven shelf old missing slot2 boot2

-- and some record is
abbrev pub OpeningStillGives : Type 0
OpeningStillGives = (shelf : Geometry) (old new : Image) (missing later : Conditions) (slot : BootSlot) (boot : BootRecord)
    → IsWithin missing later → IsRecordOf shelf boot → OpensGatesOf old new later slot (spelling boot)
    → ((more : Conditions) (view : View) → MayAppear shelf old missing more view → Effective shelf view)
    → (more : Conditions) (view : View) → MayAppear shelf new later more view → Effective shelf view

-- gates of a slot are closed, and bodies behind closed gates written, as the first phases of a store do. A gate that is written unread may come to stand open over a body that loses against the record of the other slot
pub record ClosesGatesOf (old new : Image) (later : Conditions) (slot : BootSlot) (held : List ℕ) : Type 0 where
  pub others : (i : ℕ) → later (drive i) ≡ Sound → shown_by (other_slot slot) (new (drive i)) ≡ shown_by (other_slot slot) (old (drive i))
  pub closes : (i : ℕ) → later (drive i) ≡ Sound → (shown_by slot (new (drive i)) ≡ shown_by slot (old (drive i)))
      ⊎ IfSome (shown_by slot (new (drive i))) (λ body. Yields (other_slot slot) (generation_in body) (generation_in held))

-- while a record of the other slot is decided, nothing may be given that couldn't be before
abbrev pub ClosingGivesNoMore : Type 0
ClosingGivesNoMore = (shelf : Geometry) (old new : Image) (missing later : Conditions) (slot slot2 : BootSlot) (boot boot2 : BootRecord)
    → IsWithin missing later → MayBeGiven shelf old missing (other_slot slot) boot
    → ((more : Conditions) (view : View) → MayAppear shelf new later more view → IsDecided (votes shelf view (other_slot slot)) (spelling boot))
    → ClosesGatesOf old new later slot (spelling boot)
    → MayBeGiven shelf new later slot2 boot2 → MayBeGiven shelf old missing slot2 boot2

-- and some record is given
abbrev pub ClosingStillGives : Type 0
ClosingStillGives = (shelf : Geometry) (old new : Image) (missing later : Conditions) (slot : BootSlot) (boot : BootRecord)
    → IsWithin missing later → IsRecordOf shelf boot
    → ((more : Conditions) (view : View) → MayAppear shelf new later more view → IsDecided (votes shelf view (other_slot slot)) (spelling boot))
    → ClosesGatesOf old new later slot (spelling boot)
    → ((more : Conditions) (view : View) → MayAppear shelf old missing more view → Effective shelf view)
    → (more : Conditions) (view : View) → MayAppear shelf new later more view → Effective shelf view

-- a change of boot units that lets nothing more be given keeps what the devices stand for
abbrev pub BootKeeps : Type 0
BootKeeps = (shelf : Geometry) (old new : Image) (missing later : Conditions) (arrays : List Array)
    → IsWithin missing later → IsBearable shelf later → DiffersOnlyIn (λ drive unit. unit < BOOT_UNITS) old new
    → ((more : Conditions) (view : View) → MayAppear shelf new later more view → Effective shelf view)
    → ((slot : BootSlot) (boot : BootRecord) → MayBeGiven shelf new later slot boot
    → MayBeGiven shelf old missing slot boot × ((i : ℕ) → body_in slot (new (drive i)) ≡ body_in slot (old (drive i))))
    → Stands shelf old missing arrays → Stands shelf new later arrays

-- no record that may be given names the device
abbrev pub IsNamedByNone : Geometry → Image → Conditions → Device → Type 0
IsNamedByNone shelf image missing device = (slot : BootSlot) (boot : BootRecord) → MayBeGiven shelf image missing slot boot → names boot device ≡ false

-- a missing device that no record names has a mark, or may have one
abbrev pub MayBeMarked : Geometry → Image → Conditions → Conditions → Type 0
MayBeMarked shelf image missing marked = (device : Device) → (marked device ≡ missing device)
    ⊎ ((missing device ≡ Missing) × (marked device ≡ LeftOut) × IsNamedByNone shelf image missing device)

-- it costs nothing that such a device may show anything
abbrev pub MarksAreFree : Type 0
MarksAreFree = (shelf : Geometry) (image : Image) (missing marked : Conditions) (arrays : List Array)
    → MayBeMarked shelf image missing marked → Stands shelf image missing arrays → Stands shelf image marked arrays

-- some of the devices that were left out are so no longer, and still missing
abbrev pub AreCleared : Conditions → Conditions → Type 0
AreCleared missing cleared = (device : Device) → (cleared device ≡ missing device) ⊎ ((missing device ≡ LeftOut) × (cleared device ≡ Missing))

-- clearing a mark takes views away and adds none
abbrev pub MarksMayClear : Type 0
MarksMayClear = (shelf : Geometry) (image : Image) (missing cleared : Conditions) (arrays : List Array)
    → ((device : Device) → IsBytes (image device)) → AreCleared missing cleared → Stands shelf image missing arrays → Stands shelf image cleared arrays

-- what the devices are found with later is what they may show, as a missing one that has turned blank
abbrev pub ShownStands : Type 0
ShownStands = (shelf : Geometry) (old new : Image) (missing : Conditions) (arrays : List Array)
    → ((device : Device) → MayShowAs (missing device) (old device) (Some (new device)))
    → Stands shelf old missing arrays → Stands shelf new missing arrays

-- a slot spells one command under a number
abbrev pub OneCommand : Type 0
OneCommand = (bytes : List ℕ) (number : ℕ) (c d : Command) → Spells bytes number c → Spells bytes number d → c ≡ d

-- one sector stands at an index
abbrev pub OneSector : Type 0
OneSector = (view : View) (places : List Place) (index : ℕ) (a b : List ℕ) → SectorStands view places index a → SectorStands view places index b → a ≡ b

-- a view has one log over a base
abbrev pub OneLog : Type 0
OneLog = (view : View) (flushed : ℕ) (base : Array) (cs ds : List Command) → LogStands view flushed base cs → LogStands view flushed base ds → cs ≡ ds

-- 64 bytes spell one fact
abbrev pub OneFact : Type 0
OneFact = (text : List ℕ) (f g : AnyFact) → Decodes text f → Decodes text g → f ≡ g
