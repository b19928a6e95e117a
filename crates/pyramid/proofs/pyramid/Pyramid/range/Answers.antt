use Rattle.pyramid.proofs.Prelude.{is_within, facts_of, rises_alone, rises_below}
use Rattle.pyramid.proofs.SpanLemmas.{ranged, for_ok}
use Rattle.pyramid.proofs.pyramid.Pyramid.range.Goals as goal

pub gathered-requires : goal.gathered-requires
gathered-requires g c = rw c.deref.ensures.value (rises_alone g.F.Fact.number c.self.inside.patches.items c.self.inside.unflushed.items c.self.invariant.rises)

pub span-requires : goal.span-requires
span-requires g c = rw c.deref-2.ensures.value c.self.invariant.ordered

pub returns-clause-ascends : goal.returns-clause-ascends
returns-clause-ascends g c =
    let h = rw (c.deref-3.ensures.value, c.deref-4.ensures.value, c.in_ok-newer.ensures, c.span.ensures, c.deref-2.ensures.value) at c.merge_facts.ensures in
    let older = rw c.deref.ensures.value at c.in_ok-older.ensures in
    let below = rises_below g.F.Fact.number c.self.inside.patches.items c.self.inside.unflushed.items c.self.invariant.rises in
    for_ok c.merge_facts.result _ _ h (λ v is. rw is (ranged g.F.Fact.key g.F.Fact.number g.F.Fact.empty c.args.from c.args.to (is_within c.args.elided.now) (facts_of c.self.inside.patches.items)
    c.self.inside.unflushed.items c.in_ok-older.older.items older c.self.invariant.ordered below).0)

pub returns-clause-facts : goal.returns-clause-facts
returns-clause-facts g c =
    let h = rw (c.deref-3.ensures.value, c.deref-4.ensures.value, c.in_ok-newer.ensures, c.span.ensures, c.deref-2.ensures.value) at c.merge_facts.ensures in
    let older = rw c.deref.ensures.value at c.in_ok-older.ensures in
    let below = rises_below g.F.Fact.number c.self.inside.patches.items c.self.inside.unflushed.items c.self.invariant.rises in
    rw (← c.self.view_is) (for_ok c.merge_facts.result _ _ h (λ v is. rw is (ranged g.F.Fact.key g.F.Fact.number g.F.Fact.empty c.args.from c.args.to (is_within c.args.elided.now) (facts_of c.self.inside.patches.items)
    c.self.inside.unflushed.items c.in_ok-older.older.items older c.self.invariant.ordered below).1))
