use Rattle.pyramid.proofs.Prelude.{get_or, get_or_default}
use Rattle.pyramid.proofs.InsertLemmas.{ordered_insert, contains-insert, contains-same}
use Rattle.pyramid.proofs.insert.insert_in_order.Goals as goal

pub place_of-at-requires : goal.place_of-at-requires
place_of-at-requires g c = rw c.deref.ensures.value c.requires.ordered

pub returns-then-is_at-clause-facts : goal.returns-then-is_at-clause-facts
returns-then-is_at-clause-facts g c =
    let there = rw c.deref-2.ensures.value at c.is_at.ensures.there c.if-is_at.true in
    contains-same g.F.Fact.number c.args.facts.now.items c.place_of-at.result c.args.fact (get_or c.args.facts.now.items c.place_of-at.result c.args.fact)
    c.requires.distinct there.0 (get_or_default c.args.facts.now.items c.place_of-at.result c.args.fact (get_or c.args.facts.now.items c.place_of-at.result c.args.fact) there.0) there.1

pub returns-in_err-insert-clause-ordered : goal.returns-in_err-insert-clause-ordered
returns-in_err-insert-clause-ordered g c = rw c.in_err-insert.ensures.items c.requires.ordered

pub returns-clause-ordered : goal.returns-clause-ordered
returns-clause-ordered g c =
    let value = c.deref.ensures.value in
    let value2 = c.deref-2.ensures.value in
    let within = rw value at c.place_of-at.ensures.within in
    let below = rw value at c.place_of-at.ensures.below in
    let above = rw value at c.place_of-at.ensures.above in
    let absent = rw value2 at c.is_at.ensures.absent in
    rw c.in_ok-insert.ensures.items (ordered_insert g.F.Fact.key g.F.Fact.number c.args.facts.now.items c.place_of-at.result c.args.fact c.requires.ordered within below above (absent c.if-is_at.false))

pub returns-clause-facts : goal.returns-clause-facts
returns-clause-facts g c = rw c.in_ok-insert.ensures.items (λ f. contains-insert c.args.facts.now.items c.place_of-at.result c.args.fact f)
