use Rattle.free_space.proofs.LawLemmas.{free_in_the_tables}
use Rattle.free_space.proofs.laws.free_units.Goals as goal

pub returns : goal.returns
returns c = free_in_the_tables
