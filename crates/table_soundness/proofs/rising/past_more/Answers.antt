use Rattle.table_soundness.proofs.Prelude.{arith, take, take_all, take_more}
use Rattle.table_soundness.proofs.NumberLemmas.{end_push}
use Rattle.table_soundness.proofs.rising.past_more.Goals as goal

pub loop-fact-preserved : goal.loop-fact-preserved
loop-fact-preserved g c =
    rw (take_more c.args.more.now c.loop-fact.fact-index c.fact-item.result c.loop-fact-test.true, ← c.fact-item.is)
    (end_push g.F.Fact.number c.args.past c.loop-fact.end c.past_one-end.result (take c.loop-fact.fact-index c.args.more.now) c.fact-item.result c.loop-fact.invariant (omega (arith, c.if-from-past.false, c.from.ensures, c.seq.ensures)) c.past_one-end.ensures)

pub returns-clause-end : goal.returns-clause-end
returns-clause-end g c = rw (take_all c.loop-fact.fact-index c.args.more.now c.loop-fact-test.false) at c.loop-fact.invariant
