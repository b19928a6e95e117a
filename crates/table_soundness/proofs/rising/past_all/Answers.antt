use Rattle.table_soundness.proofs.Prelude.{take_all}
use Rattle.pyramid.proofs.LoadLemmas.{rises_from}
use Rattle.table_soundness.proofs.NumberLemmas.{rise_next}
use Rattle.table_soundness.proofs.rising.past_all.Goals as goal

pub returns-in-None : goal.returns-in-None
returns-in-None g c = record {
  some = tt;
  none = λ h. c.in-None.ensures.not_above (rises_from g.F.Fact.number g.F.Fact.key c.args.patches.now c.loop-patch.patch-index c.facts.result.now c.loop-patch.past c.loop-patch-test.true (rw c.facts.ensures.value c.patch-item.is) c.loop-patch.invariant.least h);
}

pub loop-patch-preserved : goal.loop-patch-preserved
loop-patch-preserved g c =
    rise_next g.F.Fact.number g.F.Fact.key c.args.patches.now c.loop-patch.patch-index c.facts.result.now c.loop-patch.past c.in-Some.end c.loop-patch-test.true (rw c.facts.ensures.value c.patch-item.is) c.loop-patch.invariant c.in-Some.ensures.end

pub returns-clause-some : goal.returns-clause-some
returns-clause-some g c = rw (take_all c.loop-patch.patch-index c.args.patches.now c.loop-patch-test.false) at c.loop-patch.invariant
