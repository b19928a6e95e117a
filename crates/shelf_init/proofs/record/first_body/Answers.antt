use Rattle.shelf_init.proofs.Prelude.{subst, sym, IsBootRecord, BootRecord}
use Rattle.shelf_init.proofs.FirstLemmas.{first_is_lawful}
use Rattle.shelf_init.proofs.record.first_body.Goals as goal

pub write_record-requires-clause-lawful : goal.write_record-requires-clause-lawful
write_record-requires-clause-lawful c =
    subst (λ (r : BootRecord). IsBootRecord r) (sym c.first_record-record.ensures) (first_is_lawful (record { slots = c.args.slots; units = c.args.units }) c.requires.slots c.requires.units).lawful
