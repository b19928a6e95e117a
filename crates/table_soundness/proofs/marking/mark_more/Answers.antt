use Rattle.table_soundness.proofs.Prelude.{◌++◌, ◌∷◌, [], map, take, append_assoc, take_all, take_more, map-append}
use Rattle.table_soundness.proofs.NumberLemmas.{end_push}
use Rattle.table_soundness.proofs.marking.mark_more.Goals as goal

pub loop-fact-preserved : goal.loop-fact-preserved
loop-fact-preserved g c =
    let number = g.F.Fact.number in
    let front = take c.loop-fact.fact-index c.args.more.now in
    let x = c.fact-item.result in
    rw (take_more c.args.more.now c.loop-fact.fact-index x c.loop-fact-test.true, ← c.fact-item.is) (record {
      end = end_push number c.args.past c.loop-fact.end c.past_one-end.result front x c.loop-fact.invariant.end (c.mark_one.ensures.above c.if-not-mark_one.false) c.past_one-end.ensures;
      marked = λ numbers h. rw (map-append number front (x ∷ []), ← append_assoc numbers (map number front) (number x ∷ [])) (c.mark_one.ensures.marked c.if-not-mark_one.false (numbers ++ map number front) (c.loop-fact.invariant.marked numbers h));
    })

pub returns-clause-end : goal.returns-clause-end
returns-clause-end g c = rw (take_all c.loop-fact.fact-index c.args.more.now c.loop-fact-test.false) at c.loop-fact.invariant.end

pub returns-clause-marked : goal.returns-clause-marked
returns-clause-marked g c = rw (take_all c.loop-fact.fact-index c.args.more.now c.loop-fact-test.false) at c.loop-fact.invariant.marked
