use Rattle.record_tables.proofs.Named.{added_are_named, added_take_the_units}
use Rattle.record_tables.proofs.laws.added_are_named.Goals as goal

pub returns-clause-named : goal.returns-clause-named
returns-clause-named c = added_are_named

pub returns-clause-units : goal.returns-clause-units
returns-clause-units c = added_take_the_units
