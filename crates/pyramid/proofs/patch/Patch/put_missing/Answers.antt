use Rattle.pyramid.proofs.Prelude.{◌+◌, sym, get_or, None, newest_of}
use Rattle.pyramid.proofs.WalkLemmas.{option_or-none}
use Rattle.pyramid.proofs.MarkLemmas.{unmarked}
use Rattle.pyramid.proofs.patch.Patch.put_missing.Goals as goal

pub returns-else-is_any_marked : goal.returns-else-is_any_marked
returns-else-is_any_marked g c = rw (← c.self.view_is) (λ i l. sym (option_or-none (get_or c.args.out.now i None) (newest_of g.F.Fact.key g.F.Fact.number (c.args.from + i) c.self.inside.facts.items)
    (unmarked g.F.Fact.key g.F.Fact.number c.self.inside.facts.items c.self.inside.marks (c.args.from + i) c.self.invariant.marked (c.is_any_marked.ensures c.if-is_any_marked.false i l))))
