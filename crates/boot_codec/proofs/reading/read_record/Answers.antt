use Rattle.boot_codec.proofs.Prelude.{subst, arith, Gives}
use Rattle.boot_codec.proofs.RecordLemmas.{record_found, record_again}
use Rattle.boot_codec.proofs.reading.read_record.Goals as goal

pub returns-clause-lawful : goal.returns-clause-lawful
returns-clause-lawful c = (record_found c.args.slots c.args.units c.args.bytes.now c.whole.result (λ i. omega (arith, c.type_inv.bytes i)) c.requires c.whole.ensures).0

pub returns-clause-shelf : goal.returns-clause-shelf
returns-clause-shelf c = (record_found c.args.slots c.args.units c.args.bytes.now c.whole.result (λ i. omega (arith, c.type_inv.bytes i)) c.requires c.whole.ensures).1

pub returns-clause-spelled : goal.returns-clause-spelled
returns-clause-spelled c = (record_found c.args.slots c.args.units c.args.bytes.now c.whole.result (λ i. omega (arith, c.type_inv.bytes i)) c.requires c.whole.ensures).2

pub returns-clause-only : goal.returns-clause-only
returns-clause-only c = λ r lawful slots units spelled. subst (λ read. Gives (λ x. x) c.whole.result read) (record_again c.args.slots c.args.units r c.args.bytes.now lawful slots units spelled) c.whole.ensures
