use Rattle.record_tables.proofs.Taking.{none_is_taken}
use Rattle.record_tables.proofs.laws.none_is_taken.Goals as goal

pub returns : goal.returns
returns c = none_is_taken
