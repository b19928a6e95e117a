-- What the devices stand for, whatever else goes missing.
use Rattle.std.specs.Prelude.{◌≡◌, ◌≢◌, ℕ, ◌<◌, ◌≤◌, List, [], ◌∷◌, length, take, Some, Contains}
use Rattle.boot_codec.specs.Prelude.{Geometry, Image, View, Conditions, Sound, IsBearable, IsWithin, MayShow, without_missing, Array, Command, after_all, Device, spelling, BootSlot, Effective, IsEffective, IsRecordOf, of_members}
use Rattle.boot_codec.specs.declared.record.BootRecord.{BootRecord}
use Rattle.log_codec.specs.Prelude.{Shows, LogStands, DevicesAgree}
use Rattle.array_spec.specs.Meaning.{HoldsBase, IsInForce, Means, AllHold, members_view}

-- a view that the image may show where at most these devices are missing, bearably
pub record IsViewOf (shelf : Geometry) (image : Image) (missing more : Conditions) (view : View) : Type 0 where
  pub within : IsWithin missing more
  pub bearable : IsBearable shelf more
  pub shown : MayShow image more view

-- the view means one of the arrays by the record that it gives, which each device that isn't missing holds
pub record ShowsOneOf (shelf : Geometry) (missing : Conditions) (view : View) (arrays : List Array) : Type 0 where
  pub effective : Effective shelf view
  pub array : Array
  pub one_of : Contains arrays array
  pub means : Means shelf view effective array
  pub all_hold : AllHold shelf missing (members_view view effective)

-- each view means one of the arrays
pub record EachViewMeans (shelf : Geometry) (image : Image) (missing : Conditions) (arrays : List Array) : Type 0 where
  pub bearable : IsBearable shelf missing
  pub some : arrays ≢ []
  pub each : (more : Conditions) (view : View) → IsViewOf shelf image missing more view → ShowsOneOf shelf more view arrays

-- The rest says the same so that it outlives a takeover that is stopped at any moment.

-- the same, where the missing devices may show anything
pub record MayAppear (shelf : Geometry) (image : Image) (missing more : Conditions) (view : View) : Type 0 where
  pub within : IsWithin missing more
  pub bearable : IsBearable shelf more
  pub shown : (device : Device) → more device ≡ Sound → view device ≡ Some (image device)

-- the record may be given, whatever the missing devices show
pub record MayBeGiven (shelf : Geometry) (image : Image) (missing : Conditions) (slot : BootSlot) (boot : BootRecord) : Type 0 where
  pub more : Conditions
  pub view : View
  pub appears : MayAppear shelf image missing more view
  pub lawful : IsRecordOf shelf boot
  pub effective : IsEffective shelf view slot (spelling boot)

-- the log leads from the base to one of the arrays, and so does each front of it that has what the devices that aren't missing show alone
pub record LeadsInto (missing : Conditions) (members : View) (flushed : ℕ) (base : Array) (arrays : List Array) : Type 0 where
  pub log : List Command
  pub log_stands : LogStands members flushed base log
  pub devices_agree : DevicesAgree members flushed
  pub least : List Command
  pub least_stands : LogStands (without_missing missing members) flushed base least
  pub enough : length least ≤ length log
  pub fronts : (n : ℕ) → length least ≤ n → n ≤ length log → Contains arrays (after_all base (take n log))

-- read by the record, the members hold the base, which the log leads into the arrays
pub record IsReadBy (shelf : Geometry) (missing : Conditions) (members : View) (slot : BootSlot) (boot : BootRecord) (base : Array) (arrays : List Array) : Type 0 where
  pub in_force : IsInForce slot boot
  pub all_hold : AllHold shelf missing members
  pub holds : HoldsBase shelf members boot base
  pub leads : LeadsInto missing members boot.flushed base arrays

-- no device shows a command past what the record has flushed
abbrev pub HasNoLog : View → ℕ → Type 0
HasNoLog members flushed = (device i : ℕ) (c : Command) → ¬ (Shows members device flushed i c)

-- each view reads the record so, from one base
pub record IsReadInto (shelf : Geometry) (image : Image) (missing : Conditions) (slot : BootSlot) (boot : BootRecord) (arrays : List Array) : Type 0 where
  pub base : Array
  pub each : (more : Conditions) (view : View) → IsViewOf shelf image missing more view → IsReadBy shelf more (of_members slot boot view) slot boot base arrays

-- of two records that may be given: the later one has flushed no less; where both have flushed as much they hold the same base; and no log follows the one that has flushed more
pub record FollowsOn (shelf : Geometry) (image : Image) (missing : Conditions) (slot : BootSlot) (boot boot2 : BootRecord) (base base2 : Array) : Type 0 where
  pub in_order : boot2.generation < boot.generation → boot2.flushed ≤ boot.flushed
  pub same_base : boot.flushed ≡ boot2.flushed → base ≡ base2
  pub no_log : boot2.flushed < boot.flushed → (more : Conditions) (view : View) → IsViewOf shelf image missing more view → HasNoLog (of_members slot boot view) boot.flushed

-- the devices stand for these arrays: each view gives a record, and each record that may be given is read into them
pub record Stands (shelf : Geometry) (image : Image) (missing : Conditions) (arrays : List Array) : Type 0 where
  pub bearable : IsBearable shelf missing
  pub some : arrays ≢ []
  pub gives : (more : Conditions) (view : View) → MayAppear shelf image missing more view → Effective shelf view
  pub reads : (slot : BootSlot) (boot : BootRecord) → MayBeGiven shelf image missing slot boot → IsReadInto shelf image missing slot boot arrays
  pub agree : (slot slot2 : BootSlot) (boot boot2 : BootRecord) (g : MayBeGiven shelf image missing slot boot) (g2 : MayBeGiven shelf image missing slot2 boot2)
      → FollowsOn shelf image missing slot boot boot2 (reads slot boot g).base (reads slot2 boot2 g2).base

-- the devices stand for one array
abbrev pub StandsFor : Geometry → Image → Conditions → Array → Type 0
StandsFor shelf image missing array = Stands shelf image missing (array ∷ [])
