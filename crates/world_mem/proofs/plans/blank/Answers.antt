use Rattle.world_mem.proofs.Prelude.{◌≡◌, ◌∙◌, ap, sym, length, false, Plan, pulling, IsBlank}
use Rattle.world_mem.proofs.Bank.{both, others, size, plan_there, plan_then, other_plans}
use Rattle.world_mem.proofs.plans.blank.Goals as goal

pub returns-clause-blank : goal.returns-clause-blank
returns-clause-blank c = both c.args.parts.now.items c.args.k c.index_mut.result.now c.blank.new.self c.requires c.index_mut.ensures.value (λ a b. IsBlank (length a.bytes) b) c.blank.ensures.blank

pub returns-clause-counts : goal.returns-clause-counts
returns-clause-counts c = both c.args.parts.now.items c.args.k c.index_mut.result.now c.blank.new.self c.requires c.index_mut.ensures.value (λ a b. (b.faults ≡ a.faults) × (b.write_faults ≡ a.write_faults)) c.blank.ensures.counts

pub returns-clause-plan : goal.returns-clause-plan
returns-clause-plan c =
    plan_then c.args.parts.now.items c.args.k c.index_mut.result.now c.requires c.index_mut.ensures.value c.blank.new.self ∙ c.blank.ensures.plan
    ∙ ap (λ (p : Plan). pulling p false) (sym (plan_there c.args.parts.now.items c.args.k c.index_mut.result.now c.requires c.index_mut.ensures.value))

pub returns-clause-other_disks : goal.returns-clause-other_disks
returns-clause-other_disks c = others c.args.parts.now.items c.args.k c.index_mut.result.now c.blank.new.self c.requires c.index_mut.ensures.value

pub returns-clause-others : goal.returns-clause-others
returns-clause-others c = other_plans c.args.parts.now.items c.args.k c.index_mut.result.now c.requires c.index_mut.ensures.value c.blank.new.self

pub returns-clause-size : goal.returns-clause-size
returns-clause-size c = size c.args.parts.now.items c.args.k c.index_mut.result.now c.blank.new.self c.requires c.index_mut.ensures.value c.blank.ensures.blank.long
