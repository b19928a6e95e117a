use Rattle.array_memory.proofs.Prelude.{refl, arith}
use Rattle.array_memory.proofs.PlanLemmas.{numbered}
use Rattle.array_memory.proofs.plan.Plan.number_patches.Goals as goal

pub returns-clause-plan : goal.returns-clause-plan
returns-clause-plan c = λ m plan. numbered m c.args.self.now _ refl (omega arith) (omega arith) plan
