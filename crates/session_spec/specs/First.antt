-- The record of a new array.
use Rattle.std.specs.Prelude.{ℕ, ◌-◌, List, [], ◌∷◌, ◌++◌, Bool, true, false, replicate}
use Rattle.memory_spec.specs.Prelude.{Geometry, DRIVE_FLAGS, Members, NextNumbers, BootRecord}

-- the slots of a shelf, of as many flags as a record has
abbrev pub all_drives : ℕ → List Bool
all_drives slots = replicate slots true ++ replicate (DRIVE_FLAGS - slots) false

-- all devices are members
abbrev pub all_members : ℕ → Members
all_members slots = record { drives = all_drives slots; nvrams = true ∷ true ∷ [] }

-- ids and sequence numbers are given from 1 on
abbrev pub first_numbers : NextNumbers
first_numbers = record { object = 1; medium = 1; segment = 1; patch_segment = 1; sequence = 1 }

-- the first record of a shelf: it names all devices, and no patch
abbrev pub first_record : Geometry → BootRecord
first_record shelf = record {
  slots = shelf.slots;
  units = shelf.units;
  generation = 1;
  members = all_members shelf.slots;
  next = first_numbers;
  flushed = 0;
  patches = [];
}
