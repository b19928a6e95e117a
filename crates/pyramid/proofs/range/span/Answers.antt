use Rattle.pyramid.proofs.Prelude.{◌≤◌, arith, get_or, is_between}
use Rattle.pyramid.proofs.SpanLemmas.{spanned, between, not_from, not_to}
use Rattle.pyramid.proofs.range.span.Goals as goal

pub returns : goal.returns
returns g c = spanned (λ f. is_between c.args.from c.args.to (g.F.Fact.key f)) c.args.facts.now c.start_of-start.result c.max-end.result
    (omega (arith, c.max-end.ensures)) (omega (arith, c.max-end.ensures, c.start_of-start.ensures.within, c.end_of.ensures.within))
    (λ i d l. not_from c.args.from c.args.to (g.F.Fact.key (get_or c.args.facts.now i d)) (c.start_of-start.ensures.below i d l))
    (λ i d m l.
    let start : c.args.from ≤ g.F.Fact.key (get_or c.args.facts.now i d) = c.start_of-start.ensures.above i d m (omega (arith, l, c.max-end.ensures, c.start_of-start.ensures.within, c.end_of.ensures.within)) in
    let end : g.F.Fact.key (get_or c.args.facts.now i d) ≤ c.args.to = c.end_of.ensures.below i d (omega (arith, m, l, c.max-end.ensures)) in
    between c.args.from c.args.to (g.F.Fact.key (get_or c.args.facts.now i d)) start end)
    (λ i d m l. not_to c.args.from c.args.to (g.F.Fact.key (get_or c.args.facts.now i d)) (c.end_of.ensures.above i d (omega (arith, m, c.max-end.ensures)) l))
