use Rattle.world_mem.proofs.Bank.{plan_there, made_there, plan_then, other_plans, same_disks}
use Rattle.world_mem.proofs.plans.name.Goals as goal

pub returns-clause-ok : goal.returns-clause-ok
returns-clause-ok c =
    rw (plan_then c.args.parts.now.items c.args.k c.index_mut.result.now c.requires.inside c.index_mut.ensures.value c.name.new.self, plan_there c.args.parts.now.items c.args.k c.index_mut.result.now c.requires.inside c.index_mut.ensures.value, made_there c.args.parts.now.items c.args.k c.index_mut.result.now c.requires.inside c.index_mut.ensures.value)
    c.name.ensures.ok

pub returns-clause-err : goal.returns-clause-err
returns-clause-err c =
    rw (plan_then c.args.parts.now.items c.args.k c.index_mut.result.now c.requires.inside c.index_mut.ensures.value c.name.new.self, plan_there c.args.parts.now.items c.args.k c.index_mut.result.now c.requires.inside c.index_mut.ensures.value)
    c.name.ensures.err

pub returns-clause-others : goal.returns-clause-others
returns-clause-others c = other_plans c.args.parts.now.items c.args.k c.index_mut.result.now c.requires.inside c.index_mut.ensures.value c.name.new.self

pub returns-clause-disks : goal.returns-clause-disks
returns-clause-disks c = same_disks c.args.parts.now.items c.args.k c.index_mut.result.now c.requires.inside c.index_mut.ensures.value c.name.new.self c.name.ensures.disk
