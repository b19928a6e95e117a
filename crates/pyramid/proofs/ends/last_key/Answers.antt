use Rattle.pyramid.proofs.Prelude.{◌≤◌, arith}
use Rattle.pyramid.proofs.EndLemmas.{last_in}
use Rattle.pyramid.proofs.ends.last_key.Goals as goal

pub returns-then-key-from-clause-last : goal.returns-then-key-from-clause-last
returns-then-key-from-clause-last g c = λ f h le.
    let up : g.F.Fact.key f ≤ g.F.Fact.key c.index-facts-end.result = last_in g.F.Fact.key g.F.Fact.number c.args.facts.now c.args.to c.end_of-end.result c.index-facts-end.result f c.requires.ordered
    (omega (arith, c.if-end-eq0.false)) c.end_of-end.ensures.within c.end_of-end.ensures.above c.index-facts-end.is h le in
    omega (arith, up, c.key-key.ensures, c.if-key-from.true)

pub returns-else-key-from-clause-last : goal.returns-else-key-from-clause-last
returns-else-key-from-clause-last g c = λ f h le.
    let up : g.F.Fact.key f ≤ g.F.Fact.key c.index-facts-end.result = last_in g.F.Fact.key g.F.Fact.number c.args.facts.now c.args.to c.end_of-end.result c.index-facts-end.result f c.requires.ordered
    (omega (arith, c.if-end-eq0.false)) c.end_of-end.ensures.within c.end_of-end.ensures.above c.index-facts-end.is h le in
    omega (arith, up, c.key-key.ensures)
