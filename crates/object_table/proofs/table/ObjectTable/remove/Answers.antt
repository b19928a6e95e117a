use Rattle.object_table.specs.Objects.{objects_of}
use Rattle.std.proofs.Common.{sym}
use Rattle.pyramid.specs.Prelude.{facts_in}
use Rattle.object_table.proofs.ObjectLemmas.{filter_none, removed_at, listed_removed, shown_removed}
use Rattle.object_table.proofs.table.ObjectTable.remove.Goals as goal

pub invariant_of-self : goal.invariant_of-self
invariant_of-self c =
    rw c.shift_remove_index.ensures.entries (listed_removed c.args.id.0 c.self.inside.named.entries c.in-Some.at c.self.invariant c.in-Some.ensures.some.0 c.in-Some.ensures.some.1)

pub returns-in-Some-clause-visible : goal.returns-in-Some-clause-visible
returns-in-Some-clause-visible c =
    rw (← c.self.view_is, c.shift_remove_index.ensures.entries) (removed_at c.args.id.0 c.self.inside.named.entries c.in-Some.at c.self.invariant.ascends c.in-Some.ensures.some.0 c.in-Some.ensures.some.1)

pub returns-in-Some-clause-says : goal.returns-in-Some-clause-says
returns-in-Some-clause-says c =
    rw (← c.self.view_is, c.shift_remove_index.ensures.entries, removed_at c.args.id.0 c.self.inside.named.entries c.in-Some.at c.self.invariant.ascends c.in-Some.ensures.some.0 c.in-Some.ensures.some.1) (λ elided wider more old.
    shown_removed (facts_in c.self.inside.facts) c.args.id.0 elided wider (objects_of c.self.inside.named.entries) more old)

pub returns-in_default-clause-visible : goal.returns-in_default-clause-visible
returns-in_default-clause-visible c = rw (← c.self.view_is) (sym (filter_none c.args.id.0 (objects_of c.self.inside.named.entries) c.in_default.ensures.none))
