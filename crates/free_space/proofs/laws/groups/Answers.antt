use Rattle.free_space.proofs.LawLemmas.{groups_of_the_tables}
use Rattle.free_space.proofs.laws.groups.Goals as goal

pub returns : goal.returns
returns c = groups_of_the_tables
