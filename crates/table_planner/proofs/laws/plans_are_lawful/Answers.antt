use Rattle.table_planner.proofs.LastingLemmas.{lawful_patches, no_more}
use Rattle.table_planner.proofs.laws.plans_are_lawful.Goals as goal

pub returns-clause-patches : goal.returns-clause-patches
returns-clause-patches c = λ m p plan. lawful_patches m p plan

pub returns-clause-few : goal.returns-clause-few
returns-clause-few c = λ m p plan. no_more m p plan
