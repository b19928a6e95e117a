-- The two slots of the boot region, in code and in the definitions.
use Rattle.array_spec.specs.Prelude.{BootSlot, A, B}
use Rattle.boot_region.specs.declared.slot.Slot.{Slot}
use Rattle.boot_region.specs.declared.slot.Slot.TheVariants as slot

-- the slot of the definitions
abbrev pub slot_in : Slot → BootSlot
slot_in slot.A = A
slot_in slot.B = B
