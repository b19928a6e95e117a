use Rattle.memory_spec.proofs.Held.{held_tables_read}
use Rattle.memory_spec.proofs.Stored.{stored_tables_read}
use Rattle.memory_spec.proofs.loaded.held_tables_read.Goals as goal

pub returns-clause-stored : goal.returns-clause-stored
returns-clause-stored c = stored_tables_read

pub returns-clause-held : goal.returns-clause-held
returns-clause-held c = held_tables_read
