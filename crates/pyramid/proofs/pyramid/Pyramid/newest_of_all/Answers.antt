use Rattle.pyramid.proofs.Prelude.{◌≡◌, sym, ◌∙◌, Some, None, has_key, facts_of, newest_of, newest-append, later_none, rises_below, rises_alone, later_below}
use Rattle.pyramid.proofs.pyramid.Pyramid.newest_of_all.Goals as goal

pub newest_in-requires : goal.newest_in-requires
newest_in-requires g c = rw c.deref.ensures.value c.self.invariant.ordered

pub newest_flushed-requires : goal.newest_flushed-requires
newest_flushed-requires g c = rw c.deref-in-None.ensures.value (rises_alone g.F.Fact.number c.self.inside.patches.items c.self.inside.unflushed.items c.self.invariant.rises)

pub returns-in-Some : goal.returns-in-Some
returns-in-Some g c =
    let hit : newest_of g.F.Fact.key g.F.Fact.number c.args.key c.self.inside.unflushed.items ≡ Some c.in-Some.fact = rw c.deref.ensures.value at (sym c.newest_in.ensures ∙ c.in-Some.is) in
    rw (← c.self.view_is) (sym (newest-append g.F.Fact.number (has_key g.F.Fact.key c.args.key) (facts_of c.self.inside.patches.items) c.self.inside.unflushed.items
    ∙ later_below g.F.Fact.key g.F.Fact.number c.args.key (facts_of c.self.inside.patches.items) c.self.inside.unflushed.items c.in-Some.fact
    (rises_below g.F.Fact.number c.self.inside.patches.items c.self.inside.unflushed.items c.self.invariant.rises) hit))

pub returns-in-None : goal.returns-in-None
returns-in-None g c =
    let none : newest_of g.F.Fact.key g.F.Fact.number c.args.key c.self.inside.unflushed.items ≡ None = rw c.deref.ensures.value at (sym c.newest_in.ensures ∙ c.in-None.is) in
    rw (← c.self.view_is) (sym (newest-append g.F.Fact.number (has_key g.F.Fact.key c.args.key) (facts_of c.self.inside.patches.items) c.self.inside.unflushed.items
    ∙ rw none (later_none g.F.Fact.number (newest_of g.F.Fact.key g.F.Fact.number c.args.key (facts_of c.self.inside.patches.items))
    ∙ rw (← c.deref-in-None.ensures.value) (sym c.newest_flushed.ensures))))
