use Rattle.pyramid.proofs.Prelude.{◌+◌, ◌-◌, ap, arith}
use Rattle.pyramid.proofs.RunLemmas.{last_at, stand_together, whole_run}
use Rattle.pyramid.proofs.runs.run_in.Goals as goal

pub returns-then-facts-start-clause-none : goal.returns-then-facts-start-clause-none
returns-then-facts-start-clause-none g c = λ run h.
    let last = (stand_together g.F.Fact.key g.F.Fact.number c.args.facts.now c.args.from c.start_of-start.result c.requires.ascends c.start_of-start.ensures.below c.start_of-start.ensures.above c.args.len run h (c.args.len - 1) (omega (arith, c.requires.some))).0 in
    omega (arith, last, c.requires.some, c.if-facts-start.true, c.start_of-start.ensures.within)

pub returns-then-key-from-clause-some : goal.returns-then-key-from-clause-some
returns-then-key-from-clause-some g c = whole_run g.F.Fact.key g.F.Fact.number c.args.facts.now c.args.from c.start_of-start.result c.requires.ascends c.start_of-start.ensures.below c.start_of-start.ensures.above c.args.len (c.start_of-start.result + c.args.len) c.index-run-len.result
    c.requires.some (omega arith) (omega (arith, c.if-facts-start.false, c.start_of-start.ensures.within)) c.index-run-len.is (omega (arith, c.key.ensures, c.if-key-from.true))

pub returns-else-key-from-clause-none : goal.returns-else-key-from-clause-none
returns-else-key-from-clause-none g c = λ run h.
    let last = stand_together g.F.Fact.key g.F.Fact.number c.args.facts.now c.args.from c.start_of-start.result c.requires.ascends c.start_of-start.ensures.below c.start_of-start.ensures.above c.args.len run h (c.args.len - 1) (omega (arith, c.requires.some)) in
    let at = last_at g.F.Fact.key g.F.Fact.number c.args.facts.now c.args.from c.start_of-start.result c.requires.ascends c.start_of-start.ensures.below c.start_of-start.ensures.above c.args.len (c.start_of-start.result + c.args.len) c.index-run-len.result
    c.requires.some (omega arith) (omega (arith, c.if-facts-start.false, c.start_of-start.ensures.within)) c.index-run-len.is in
    let here = ap g.F.Fact.key at in
    let final = last.1 c.index-run-len.result in
    c.if-key-from.false (omega (arith, c.key.ensures, here, final))
