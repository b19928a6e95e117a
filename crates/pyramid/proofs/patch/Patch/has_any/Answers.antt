use Rattle.pyramid.proofs.Prelude.{◌+◌}
use Rattle.pyramid.proofs.MarkLemmas.{unmarked}
use Rattle.pyramid.proofs.patch.Patch.has_any.Goals as goal

pub returns-else-is_any_marked-clause-absent : goal.returns-else-is_any_marked-clause-absent
returns-else-is_any_marked-clause-absent g c = λ e i l. rw (← c.self.view_is) (unmarked g.F.Fact.key g.F.Fact.number c.self.inside.facts.items c.self.inside.marks (c.args.from + i) c.self.invariant.marked (c.is_any_marked.ensures e i l))
