use Rattle.pyramid.proofs.Prelude.{◌≤◌, arith}
use Rattle.pyramid.proofs.EndLemmas.{first_in}
use Rattle.pyramid.proofs.ends.first_key.Goals as goal

pub returns-then-to-key-clause-first : goal.returns-then-to-key-clause-first
returns-then-to-key-clause-first g c = λ f h le.
    let up : g.F.Fact.key c.index-facts-start.result ≤ g.F.Fact.key f = first_in g.F.Fact.key g.F.Fact.number c.args.facts.now c.args.from c.start_of-start.result c.index-facts-start.result f c.requires.ordered
    (omega (arith, c.start_of-start.ensures.within, c.if-start-facts.false)) c.start_of-start.ensures.below c.index-facts-start.is h le in
    omega (arith, up, c.key-key.ensures, c.if-to-key.true)

pub returns-else-to-key-clause-first : goal.returns-else-to-key-clause-first
returns-else-to-key-clause-first g c = λ f h le.
    let up : g.F.Fact.key c.index-facts-start.result ≤ g.F.Fact.key f = first_in g.F.Fact.key g.F.Fact.number c.args.facts.now c.args.from c.start_of-start.result c.index-facts-start.result f c.requires.ordered
    (omega (arith, c.start_of-start.ensures.within, c.if-start-facts.false)) c.start_of-start.ensures.below c.index-facts-start.is h le in
    omega (arith, up, c.key-key.ensures)
