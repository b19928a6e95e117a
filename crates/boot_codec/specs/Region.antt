-- The boot region: which record a view of the devices gives.
use Rattle.std.specs.Prelude.{◌≡◌, ℕ, ◌*◌, ◌%◌, ◌<◌, ◌≤◌, Bool, false, List, length, map, slice_index_or, count_by, Option, Some, None, option_and_then, ◌==◌, if◌then◌else◌, bytes_eq}
use Rattle.std.specs.Int.{w64, from_be_bytes}
use Rattle.pur_base.specs.Prelude.{bytes_at, is_open, Geometry, View, slots_of, drive}
use Rattle.pur_base.specs.declared.device.Device.{Device}
use Rattle.pur_base.specs.declared.device.Device.TheVariants.{Drive, Nv}
use Rattle.pur_base.specs.declared.limits.TheConstants.{SECTOR_BYTES, UNIT_BYTES}
use Rattle.boot_codec.specs.declared.limits.TheConstants.{RECORD_BYTES}
use Rattle.boot_codec.specs.declared.record.BootRecord.{BootRecord}
use Rattle.boot_codec.specs.Record.{IsBootRecord}
use Rattle.boot_codec.specs.Spelling.{spelling}

-- ---- slots

-- the two slots for records of the boot region
pub data BootSlot : Type 0 where
  A : BootSlot
  B : BootSlot

-- the other one of the two
abbrev pub other_slot : BootSlot → BootSlot
other_slot A = B
other_slot B = A

-- where the gate of a slot stands on a drive
abbrev pub gate_place : BootSlot → ℕ
gate_place A = 0
gate_place B = SECTOR_BYTES

-- where its body stands
abbrev pub body_place : BootSlot → ℕ
body_place A = UNIT_BYTES
body_place B = 2 * UNIT_BYTES

-- even generations go to slot A
abbrev pub slot_of : ℕ → BootSlot
slot_of generation = if generation % 2 == 0 then A else B

-- the bytes of a slot on a drive
abbrev pub body_in : BootSlot → List ℕ → List ℕ
body_in slot bytes = bytes_at (body_place slot) RECORD_BYTES bytes

-- the generation that a body names, whether or not the rest of it is lawful
abbrev pub generation_in : List ℕ → ℕ
generation_in body = from_be_bytes w64 (bytes_at 16 8 body)

-- ---- votes

-- the body that a drive shows in a slot: the one under an open gate
abbrev pub shown_by : BootSlot → List ℕ → Option (List ℕ)
shown_by slot bytes = if is_open (gate_place slot) bytes then Some (body_in slot bytes) else None

-- what each slot of the shelf shows, member or not
abbrev pub votes : Geometry → View → BootSlot → List (Option (List ℕ))
votes shelf view slot = map (λ i. option_and_then (shown_by slot) (view (drive i))) (slots_of shelf)

-- whether this body is shown
abbrev pub is_vote : List ℕ → Option (List ℕ) → Bool
is_vote body None = false
is_vote body (Some other) = bytes_eq other body

-- more than half show this body
abbrev pub IsDecided : List (Option (List ℕ)) → List ℕ → Type 0
IsDecided votes body = length votes < 2 * count_by (is_vote body) votes

-- a record of the other slot doesn't win over one of this slot: the higher generation wins, and a tie goes to slot A
abbrev pub Yields : BootSlot → ℕ → ℕ → Type 0
Yields A other own = other ≤ own
Yields B other own = other < own

-- the body that the view gives
pub record IsEffective (shelf : Geometry) (view : View) (slot : BootSlot) (body : List ℕ) : Type 0 where
  pub decided : IsDecided (votes shelf view slot) body
  pub highest : (other : List ℕ) → IsDecided (votes shelf view (other_slot slot)) other → Yields slot (generation_in other) (generation_in body)

-- ---- the record

-- a lawful record of this shelf
pub record IsRecordOf (shelf : Geometry) (r : BootRecord) : Type 0 where
  pub lawful : IsBootRecord r
  pub slots : r.slots ≡ shelf.slots
  pub units : r.units ≡ shelf.units

-- the record that the view gives, where its body is that of a lawful one
pub record Effective (shelf : Geometry) (view : View) : Type 0 where
  pub slot : BootSlot
  pub boot : BootRecord
  pub lawful : IsRecordOf shelf boot
  pub effective : IsEffective shelf view slot (spelling boot)

-- ---- members

-- whether the record names the device as a member
abbrev pub names : BootRecord → Device → Bool
names r (Drive d) = slice_index_or r.members.drives d.0 false
names r (Nv n) = slice_index_or r.members.nvrams n.0 false

-- the bytes of a drive, where this body stands in its slot
abbrev pub with_body : BootSlot → List ℕ → List ℕ → Option (List ℕ)
with_body slot body bytes = if bytes_eq (body_in slot bytes) body then Some bytes else None

-- a view of the members alone, and of drives only those on which the record's body stands
abbrev pub of_members : BootSlot → BootRecord → View → View
of_members slot boot view (Drive d) = if names boot (Drive d) then option_and_then (with_body slot (spelling boot)) (view (Drive d)) else None
of_members slot boot view (Nv n) = if names boot (Nv n) then view (Nv n) else None
