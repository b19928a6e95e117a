use Rattle.table_soundness.proofs.Prelude.{◌≡◌, ◌++◌, length, get_or, map, take, append_assoc, take_all, map-append, facts_of}
use Rattle.pyramid.proofs.SpanLemmas.{facts_more}
use Rattle.table_soundness.proofs.NumberLemmas.{rise_next, sound_from_marks}
use Rattle.table_soundness.proofs.marking.mark_all.Goals as goal

pub loop-patch-preserved : goal.loop-patch-preserved
loop-patch-preserved g c =
    let number = g.F.Fact.number in
    let ps = c.args.patches.now in
    let i = c.loop-patch.patch-index in
    let p = c.facts.result.now in
    let is : p ≡ get_or ps i p = rw c.facts.ensures.value c.patch-item.is in
    let front = facts_of (take i ps) in
    record {
      rise = rise_next number g.F.Fact.key ps i p c.loop-patch.past c.in-Some.end c.loop-patch-test.true is c.loop-patch.invariant.rise c.in-Some.ensures.end;
      marked = λ numbers h. rw (facts_more g.F.Fact.key number ps i p c.loop-patch-test.true is, map-append number front p, ← append_assoc numbers (map number front) (map number p)) (c.in-Some.ensures.marked (numbers ++ map number front) (c.loop-patch.invariant.marked numbers h));
    }

pub returns : goal.returns
returns g c = λ yes numbers h.
    let inv = rw (take_all c.loop-patch.patch-index c.args.patches.now c.loop-patch-test.false) at c.loop-patch.invariant in
    let marked = inv.marked numbers h in
    (sound_from_marks g.F.Fact.number (length c.args.marks.now) numbers c.args.patches.now c.loop-patch.past c.loop-patch.marks c.loop-patch.auto.marks inv.rise marked, marked)
