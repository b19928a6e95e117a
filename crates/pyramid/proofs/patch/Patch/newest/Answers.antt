use Rattle.pyramid.proofs.Prelude.{sym, ◌∙◌}
use Rattle.pyramid.proofs.MarkLemmas.{unmarked}
use Rattle.pyramid.proofs.patch.Patch.newest.Goals as goal

pub returns-else-is_marked : goal.returns-else-is_marked
returns-else-is_marked g c = rw (← c.self.view_is) (sym (unmarked g.F.Fact.key g.F.Fact.number c.self.inside.facts.items c.self.inside.marks c.args.key c.self.invariant.marked (sym c.is_marked.ensures ∙ c.if-is_marked.false)))
