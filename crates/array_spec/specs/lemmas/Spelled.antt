-- Two lawful records are spelled differently.
use Rattle.std.proofs.Common.{◌≡◌, Ok, Result}
use Rattle.boot_codec.specs.Prelude.{Geometry, spelling, read_record}
use Rattle.boot_codec.specs.declared.record.BootRecord.{BootRecord}
use Rattle.boot_codec.specs.declared.bad_record.BadRecord.{BadRecord}
use Rattle.boot_codec.proofs.RecordLemmas.{record_again}
use Rattle.array_spec.specs.Laws.{SpellsOne}

same_ok : (a b : BootRecord) (r : Result BootRecord BadRecord) → r ≡ Ok a → r ≡ Ok b → a ≡ b
same_ok a b r e f = cc

pub spells_one : (shelf : Geometry) → SpellsOne shelf
spells_one shelf a b first second same =
    same_ok a b (read_record shelf.slots shelf.units (spelling a))
    (record_again shelf.slots shelf.units a (spelling a) first.lawful first.slots first.units (λ i. spelling a))
    (record_again shelf.slots shelf.units b (spelling a) second.lawful second.slots second.units same)
