use Rattle.pyramid.proofs.Prelude.{◌≡◌, get_or, [], take, facts_of}
use Rattle.pyramid.proofs.SpanLemmas.{span_more, below_next, facts_more}
use Rattle.pyramid.proofs.range.gathered.Goals as goal

pub loop-patch-preserved : goal.loop-patch-preserved
loop-patch-preserved g c =
    let is : c.facts.result.now ≡ get_or c.args.patches.now c.loop-patch.patch-index c.facts.result.now = rw c.facts.ensures.value c.patch-item.is in
    let more = facts_more g.F.Fact.key g.F.Fact.number c.args.patches.now c.loop-patch.patch-index c.facts.result.now c.loop-patch-test.true is in
    rw (more, c.in_ok-found.ensures, c.span.ensures) (span_more g.F.Fact.key g.F.Fact.number c.args.from c.args.to (facts_of (take c.loop-patch.patch-index c.args.patches.now)) c.loop-patch.found.items c.facts.result.now
    c.loop-patch.invariant c.facts.ensures.patch.ascends (below_next g.F.Fact.key g.F.Fact.number c.args.patches.now [] c.loop-patch.patch-index c.facts.result.now c.requires c.loop-patch-test.true is))
