-- The register: the record in force, the drives on which it is, and the record that is stored next.
use Rattle.std.specs.Prelude.{◌≡◌, ◌⊎◌, ℕ, ◌+◌, ◌≤◌, List, Bool, take}
use Rattle.array_spec.specs.Prelude.{Geometry, Device, BootRecord, BootSlot, A, B, IsRecordOf, other_slot, slot_of}
use Rattle.boot_region.specs.Prelude.{IsMember, OnSlot}
use Rattle.register.specs.declared.state.Register.{Register}

-- the slot in which the record stands, and that to which the next one goes
abbrev pub own_slot : BootRecord → BootSlot
own_slot boot = slot_of boot.generation

abbrev pub next_slot : BootRecord → BootSlot
next_slot boot = other_slot (own_slot boot)

-- the drives of the shelf on which the record is in force
abbrev pub drives_of : Register → List Bool
drives_of r = take r.record.slots r.drives

-- the record is one of the shelf's, and names each drive on which it is in force
pub record IsRegisterOf (shelf : Geometry) (r : Register) : Type 0 where
  pub lawful : IsRecordOf shelf r.record
  pub named : (i : ℕ) → IsMember r.drives i → IsMember r.record.members.drives i

-- the record of the next generation, with these members and all else as it was
abbrev pub next_record : BootRecord → List Bool → List Bool → BootRecord
next_record boot drives nvrams = record boot { generation = boot.generation + 1; members = record { drives = drives; nvrams = nvrams } }

-- a later record: all but its generation and its members is as it was
pub record IsLaterRecord (old new : BootRecord) : Type 0 where
  pub generation : old.generation ≤ new.generation
  pub rest : new ≡ record old { generation = new.generation; members = new.members }

-- the gates and the bodies of both slots, on each member
abbrev pub OnSlots : List Bool → Device → ℕ → Type 0
OnSlots members device i = OnSlot members A device i ⊎ OnSlot members B device i
