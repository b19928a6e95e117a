use Rattle.object_table.proofs.ObjectLemmas.{names_distinct}
use Rattle.object_table.proofs.table.ObjectTable.len.Goals as goal

pub returns-clause-distinct : goal.returns-clause-distinct
returns-clause-distinct c = rw (← c.self.view_is) (names_distinct c.self.inside.named.entries c.self.invariant.named c.len.ensures.unique)
