-- Which records may be given while one with other tables is stored.
use Rattle.std.specs.Prelude.{◌≡◌, ◌⊎◌, ℕ, ◌<◌}
use Rattle.array_spec.specs.Prelude.{Conditions, BootRecord, BootSlot, spelling, MayBeGiven, named_sound}
use Rattle.world.specs.Prelude.{geometry_of, Shelved, Stop}
use Rattle.boot_region.specs.Prelude.{IsMember, AccountsFor}
use Rattle.register.specs.declared.state.Register.{Register}
use Rattle.register.specs.declared.tables.Tables.{Tables}
use Rattle.register.specs.Registers.{IsLaterRecord, drives_of, next_slot}
use Rattle.register.specs.Tables.{with_tables}

-- a record that a store of these tables writes: later, with the same NVRAM devices and no drive that isn't left, all else as it was
pub record IsNextWith (r : Register) (tables : Tables) (boot : BootRecord) : Type 0 where
  pub later : IsLaterRecord (with_tables r.record tables) boot
  pub generation : r.record.generation < boot.generation
  pub nvrams_are : boot.members.nvrams ≡ r.record.members.nvrams
  pub drives : (i : ℕ) → IsMember boot.members.drives i → IsMember r.drives i

-- what may be given is the record before or such a one, in all conditions that tell what has failed by then
abbrev pub GivesOldOrTables : Shelved → Register → Tables → Stop → Type 0
GivesOldOrTables old r tables stop = (later : Conditions)
    → AccountsFor old (drives_of r) (named_sound r.record) (next_slot r.record) (spelling r.record) stop.faults stop.write_faults later
    → (slot : BootSlot) (boot : BootRecord) → MayBeGiven (geometry_of old) stop.image later slot boot → (boot ≡ r.record) ⊎ IsNextWith r tables boot
