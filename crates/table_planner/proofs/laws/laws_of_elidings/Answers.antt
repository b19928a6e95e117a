use Rattle.table_planner.proofs.LeftLemmas.{eliding_leaves}
use Rattle.table_planner.proofs.laws.laws_of_elidings.Goals as goal

pub returns : goal.returns
returns c = eliding_leaves
