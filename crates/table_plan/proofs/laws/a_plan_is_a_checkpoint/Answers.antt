use Rattle.table_plan.proofs.Planned.{planned_is_checkpointed, elided_is_checkpointed}
use Rattle.table_plan.proofs.laws.a_plan_is_a_checkpoint.Goals as goal

pub returns-clause-planned : goal.returns-clause-planned
returns-clause-planned c = planned_is_checkpointed

pub returns-clause-elided : goal.returns-clause-elided
returns-clause-elided c = elided_is_checkpointed
