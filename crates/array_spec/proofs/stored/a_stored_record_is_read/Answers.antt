use Rattle.array_spec.proofs.Prelude.{next_holds, data_is_held, record_is_read}
use Rattle.array_spec.proofs.stored.a_stored_record_is_read.Goals as goal

pub returns-clause-read : goal.returns-clause-read
returns-clause-read c = record_is_read

pub returns-clause-next : goal.returns-clause-next
returns-clause-next c = next_holds

pub returns-clause-stored : goal.returns-clause-stored
returns-clause-stored c = data_is_held
