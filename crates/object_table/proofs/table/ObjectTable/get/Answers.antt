use Rattle.std.proofs.Common.{◌∙◌}
use Rattle.object_table.proofs.ObjectLemmas.{name_found, name_absent}
use Rattle.object_table.proofs.table.ObjectTable.get.Goals as goal

pub returns-clause-some : goal.returns-clause-some
returns-clause-some c = rw (← c.self.view_is) (name_found c.args.name.now c.self.inside.named.entries c.copied.result c.self.invariant.named (c.copied.ensures ∙ c.get.ensures.value))

pub returns-clause-none : goal.returns-clause-none
returns-clause-none c = rw (← c.self.view_is) (name_absent c.args.name.now c.self.inside.named.entries c.copied.result c.self.invariant.named (c.copied.ensures ∙ c.get.ensures.value))
