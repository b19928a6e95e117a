use Rattle.pyramid.proofs.Prelude.{ap, get_or, arith, ltb-false, get_or_default}
use Rattle.pyramid.proofs.SearchLemmas.{rises}
use Rattle.pyramid.proofs.RunLemmas.{none_between}
use Rattle.pyramid.proofs.runs.has_any.Goals as goal

pub returns-then-start-facts-clause-absent : goal.returns-then-start-facts-clause-absent
returns-then-start-facts-clause-absent g c = λ e. none_between g.F.Fact.key g.F.Fact.number c.args.facts.now c.args.from c.args.len c.start_of-start.result c.start_of-start.ensures.below (λ j d le m.
    let past = ltb-false _ _ e in
    let up = rises g.F.Fact.key g.F.Fact.number c.args.facts.now c.start_of-start.result j c.index-facts-start.result (get_or c.args.facts.now j d) c.requires le m (get_or_default c.args.facts.now j d (get_or c.args.facts.now j d) m) in
    let first = ap g.F.Fact.key c.index-facts-start.is in
    let low = c.start_of-start.ensures.above c.start_of-start.result c.index-facts-start.result (omega arith) c.if-start-facts.true in
    omega (arith, past, up, first, low, c.key.ensures))

pub returns-else-start-facts-clause-absent : goal.returns-else-start-facts-clause-absent
returns-else-start-facts-clause-absent g c = λ e. none_between g.F.Fact.key g.F.Fact.number c.args.facts.now c.args.from c.args.len c.start_of-start.result c.start_of-start.ensures.below (λ j d le m.
    absurd (let past = ltb-false _ _ e in omega (arith, past, le, m)))
