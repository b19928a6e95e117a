use Rattle.world_mem.proofs.Prelude.{◌∙◌, ap, sym, Plan, pulling}
use Rattle.world_mem.proofs.Bank.{plan_there, plan_then, other_plans, same_disks}
use Rattle.world_mem.proofs.plans.set_pulled.Goals as goal

pub returns-clause-plan : goal.returns-clause-plan
returns-clause-plan c =
    plan_then c.args.parts.now.items c.args.k c.index_mut.result.now c.requires c.index_mut.ensures.value c.set_pulled.new.self ∙ c.set_pulled.ensures.plan
    ∙ ap (λ (p : Plan). pulling p c.args.pulled) (sym (plan_there c.args.parts.now.items c.args.k c.index_mut.result.now c.requires c.index_mut.ensures.value))

pub returns-clause-others : goal.returns-clause-others
returns-clause-others c = other_plans c.args.parts.now.items c.args.k c.index_mut.result.now c.requires c.index_mut.ensures.value c.set_pulled.new.self

pub returns-clause-disks : goal.returns-clause-disks
returns-clause-disks c = same_disks c.args.parts.now.items c.args.k c.index_mut.result.now c.requires c.index_mut.ensures.value c.set_pulled.new.self c.set_pulled.ensures.disk
