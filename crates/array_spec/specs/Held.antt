-- Tables that stand on the drives that show a record, whichever two of the shelf are missing.
use Rattle.std.specs.Prelude.{◌≡◌, ◌⊎◌, ℕ, ◌≤◌, true, false, Bool, List, slice_index_or, Some, None, is_none, count_by, if◌then◌else◌}
use Rattle.boot_codec.specs.Prelude.{Geometry, Image, View, Conditions, Sound, LeftOut, slots_of, drive, Device, Array, AnyFact, spelling, BootSlot, body_in, names}
use Rattle.boot_codec.specs.declared.record.BootRecord.{BootRecord}
use Rattle.array_spec.specs.Stored.{all_facts}
use Rattle.array_spec.specs.Base.{BaseStands}
use Rattle.array_spec.specs.Meaning.{TablesStand}

-- some of the drives that the record names and on which its body stands, as they are
abbrev pub AreSomeOf : BootSlot → BootRecord → Image → View → Type 0
AreSomeOf slot boot image members = (i : ℕ) → (members (drive i) ≡ None)
    ⊎ ((names boot (drive i) ≡ true) × (body_in slot (image (drive i)) ≡ spelling boot) × (members (drive i) ≡ Some (image (drive i))))

-- all but two of the shelf's drives, or more
abbrev pub AreEnough : Geometry → View → Type 0
AreEnough shelf members = count_by (λ i. is_none (members (drive i))) (slots_of shelf) ≤ 2

-- The record's patches hold these facts, and these the base, on each enough of its drives.
pub record TablesHold (shelf : Geometry) (image : Image) (slot : BootSlot) (boot : BootRecord) (patches : List (List AnyFact)) (base : Array) : Type 0 where
  pub each : (members : View) → AreSomeOf slot boot image members → AreEnough shelf members
      → TablesStand shelf members boot patches × BaseStands members (all_facts patches) boot.next.object base

-- the record names no device that was left out: that one may show anything
abbrev pub NamesNoneLeftOut : Conditions → BootRecord → Type 0
NamesNoneLeftOut missing boot = (d : Device) → missing d ≡ LeftOut → names boot d ≡ false

-- the devices that the record doesn't name are left out, and all others sound
abbrev pub named_sound : BootRecord → Conditions
named_sound boot = λ device. if names boot device then Sound else LeftOut

-- The same on these drives, whatever their boot units show.
abbrev pub DataHolds : Geometry → List Bool → Image → BootRecord → List (List AnyFact) → Array → Type 0
DataHolds shelf drives image boot patches base = (members : View) → ((i : ℕ) → (members (drive i) ≡ None) ⊎ ((slice_index_or drives i false ≡ true) × (members (drive i) ≡ Some (image (drive i))))) → AreEnough shelf members
    → TablesStand shelf members boot patches × BaseStands members (all_facts patches) boot.next.object base
