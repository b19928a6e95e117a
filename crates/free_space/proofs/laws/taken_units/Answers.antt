use Rattle.free_space.proofs.LawLemmas.{taken_units_are_free, taken_units_are_used}
use Rattle.free_space.proofs.laws.taken_units.Goals as goal

pub returns-clause-free : goal.returns-clause-free
returns-clause-free c = taken_units_are_free

pub returns-clause-used : goal.returns-clause-used
returns-clause-used c = taken_units_are_used
