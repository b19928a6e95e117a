-- The devices that a record can't count on.
use Rattle.std.specs.Prelude.{if◌then◌else◌, is_some}
use Rattle.boot_codec.specs.Prelude.{View, Conditions, Sound, Missing, BootSlot, of_members}
use Rattle.boot_codec.specs.declared.record.BootRecord.{BootRecord}

-- in an opening: those that the effective record doesn't name, and the drives that don't hold it
abbrev pub not_holding : BootSlot → BootRecord → View → Conditions
not_holding slot boot view = λ device. if is_some (of_members slot boot view device) then Sound else Missing
