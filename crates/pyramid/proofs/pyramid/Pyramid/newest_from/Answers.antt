use Rattle.pyramid.proofs.Prelude.{◌+◌, get_or, arith, None, facts_of, rises_alone, rises_below}
use Rattle.pyramid.proofs.WalkLemmas.{under_all}
use Rattle.pyramid.proofs.pyramid.Pyramid.newest_from.Goals as goal

pub put_newest-requires : goal.put_newest-requires
put_newest-requires g c = rw c.deref.ensures.value c.self.invariant.ordered

pub put_missing_flushed-requires : goal.put_missing_flushed-requires
put_missing_flushed-requires g c = rw c.deref-2.ensures.value (rises_alone g.F.Fact.number c.self.inside.patches.items c.self.inside.unflushed.items c.self.invariant.rises)

pub returns : goal.returns
returns g c = λ i l. rw (← c.self.view_is) (under_all g.F.Fact.key g.F.Fact.number (c.args.from + i) (facts_of c.self.inside.patches.items) c.self.inside.unflushed.items
    (get_or c.empty_all.new.out i None) (get_or c.put_newest.new.out i None) (get_or c.put_missing_flushed.new.out i None)
    (rises_below g.F.Fact.number c.self.inside.patches.items c.self.inside.unflushed.items c.self.invariant.rises)
    (c.empty_all.ensures i (omega (arith, l, c.put_newest.auto.out, c.put_missing_flushed.auto.out)))
    (rw c.deref.ensures.value at (c.put_newest.ensures i (omega (arith, l, c.put_missing_flushed.auto.out))))
    (rw c.deref-2.ensures.value at (c.put_missing_flushed.ensures i l)))
