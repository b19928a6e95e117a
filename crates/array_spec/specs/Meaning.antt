-- What a view of the devices means.
use Rattle.std.specs.Prelude.{◌≡◌, ℕ, ◌-◌, ◌<◌, ◌^◌, List, Some, IsSome}
use Rattle.boot_codec.specs.Prelude.{Geometry, View, Conditions, Sound, IsOn, Array, Command, after_all, segment, Device, SegmentFact, AnyFact, BootSlot, Effective, slot_of, of_members}
use Rattle.boot_codec.specs.declared.record.BootRecord.{BootRecord}
use Rattle.segment_codec.specs.Prelude.{StripesStand}
use Rattle.log_codec.specs.Prelude.{LogStands, DevicesAgree}
use Rattle.array_spec.specs.Stored.{PatchesStand, all_facts}
use Rattle.array_spec.specs.Sound.{AreSound}
use Rattle.array_spec.specs.Base.{BaseStands}

-- the facts that the record's patches hold, sound and whole
pub record TablesStand (shelf : Geometry) (members : View) (boot : BootRecord) (patches : List (List AnyFact)) : Type 0 where
  pub patches_stand : PatchesStand members boot patches
  pub sound : AreSound shelf boot patches
  pub data_stands : (id : ℕ) (d : SegmentFact) → segment (all_facts patches) id ≡ Some d → StripesStand members d.places d.placed

-- read by the record, the members hold an array in their tables
pub record HoldsBase (shelf : Geometry) (members : View) (boot : BootRecord) (base : Array) : Type 0 where
  pub patches : List (List AnyFact)
  pub tables : TablesStand shelf members boot patches
  pub base_stands : BaseStands members (all_facts patches) boot.next.object base

-- a record whose generation has its place and leaves room for others
pub record IsInForce (slot : BootSlot) (boot : BootRecord) : Type 0 where
  pub in_its_slot : slot ≡ slot_of boot.generation
  pub not_spent : boot.generation < 2 ^ 48 - 8

-- the members of the record that the view gives, as it shows them
abbrev pub members_view : {shelf : Geometry} → (view : View) → Effective shelf view → View
members_view view e = of_members e.slot e.boot view

-- the view means the array: its tables hold a base, and its log leads from there to the array
pub record Means (shelf : Geometry) (view : View) (e : Effective shelf view) (array : Array) : Type 0 where
  pub in_force : IsInForce e.slot e.boot
  pub base : Array
  pub holds : HoldsBase shelf (members_view view e) e.boot base
  pub log : List Command
  pub log_stands : LogStands (members_view view e) e.boot.flushed base log
  pub devices_agree : DevicesAgree (members_view view e) e.boot.flushed
  pub result : array ≡ after_all base log

-- each device that isn't missing is a member, and the record's body stands on it
abbrev pub AllHold : Geometry → Conditions → View → Type 0
AllHold shelf missing members = (device : Device) → IsOn shelf device → missing device ≡ Sound → IsSome (members device)
