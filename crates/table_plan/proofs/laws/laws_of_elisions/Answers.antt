use Rattle.table_plan.proofs.ElidedLemmas.{are_elided, may_be_elided}
use Rattle.table_plan.proofs.laws.laws_of_elisions.Goals as goal

pub returns-clause-allowed : goal.returns-clause-allowed
returns-clause-allowed c = may_be_elided

pub returns-clause-elided : goal.returns-clause-elided
returns-clause-elided c = are_elided
