use Rattle.pyramid.proofs.Prelude.{◌+◌, ◌<◌, ◌≤◌, ◌∙◌, arith, sym, length, get_or, length-set, drop-set-lt, class_of}
use Rattle.pyramid.proofs.PruneLemmas.{same_tail, step_drop, step_keep, step_ends, step_alone, lies_found, ends_set}
use Rattle.pyramid.proofs.prune.prune.Goals as goal

pub loop-i-preserved-then-lies_in_last : goal.loop-i-preserved-then-lies_in_last
loop-i-preserved-then-lies_in_last g c =
    let fits : c.loop-i.i < length c.loop-i.facts.items = omega (arith, c.loop-i-test.true, c.loop-i.invariant.length, c.len-i-end.ensures) in
    let next = same_tail c.loop-i.facts.items c.args.facts.now.items c.loop-i.i c.index.result.now fits c.loop-i.invariant.length c.loop-i.invariant.tail c.index.ensures in
    let end : get_or c.loop-i.last c.class_of-class.result 0 ≤ c.loop-i.kept = c.loop-i.invariant.last c.class_of-class.result c.class_of-class.ensures.below in
    record {
      kept = omega (arith, c.loop-i.invariant.kept);
      length = c.loop-i.invariant.length;
      last = c.loop-i.invariant.last;
      classes = c.loop-i.invariant.classes;
      ends = c.loop-i.invariant.ends;
      tail = next.1;
      pruned = step_drop g.F.Fact.key g.F.Fact.within c.args.facts.now.items c.loop-i.facts.items c.loop-i.kept c.loop-i.i (get_or c.loop-i.last c.class_of-class.result 0) c.index.result.now
          end next.0 c.loop-i.invariant.pruned
          (lies_found g.F.Fact.key g.F.Fact.within c.loop-i.facts.items (get_or c.loop-i.last c.class_of-class.result 0) c.index.result.now (omega (arith, end, c.loop-i.invariant.kept, fits))
          (rw c.deref.ensures.value at (sym c.lies_in_last.ensures ∙ c.if-lies_in_last.true)));
    }

pub loop-i-preserved : goal.loop-i-preserved
loop-i-preserved g c =
    let fits : c.loop-i.i < length c.loop-i.facts.items = omega (arith, c.loop-i-test.true, c.loop-i.invariant.length, c.len-i-end.ensures) in
    let next = same_tail c.loop-i.facts.items c.args.facts.now.items c.loop-i.i c.index.result.now fits c.loop-i.invariant.length c.loop-i.invariant.tail c.index.ensures in
    let low : c.loop-i.kept < length c.loop-i.facts.items = omega (arith, fits, c.loop-i.invariant.kept) in
    let class : class_of (g.F.Fact.key c.index.result.now) < length c.loop-i.last = rw (← c.class_of-class.ensures.class) (omega (arith, c.class_of-class.ensures.below, c.loop-i.invariant.classes)) in
    let free = rw (c.deref.ensures.value, c.class_of-class.ensures.class) at (sym c.lies_in_last.ensures ∙ c.if-lies_in_last.false) in
    record {
      kept = omega (arith, c.loop-i.invariant.kept);
      length = length-set c.loop-i.facts.items c.loop-i.kept c.index.result.now ∙ c.loop-i.invariant.length;
      last = ends_set (λ k. k < 8) c.loop-i.last c.class_of-class.result c.loop-i.kept (c.loop-i.kept + 1) (omega arith) c.loop-i.invariant.last;
      classes = length-set c.loop-i.last c.class_of-class.result (c.loop-i.kept + 1) ∙ c.loop-i.invariant.classes;
      ends = rw c.class_of-class.ensures.class (step_ends g.F.Fact.key g.F.Fact.within c.loop-i.facts.items c.loop-i.kept c.index.result.now c.loop-i.last low class c.loop-i.invariant.ends);
      tail = drop-set-lt (c.loop-i.i + 1) c.loop-i.facts.items c.loop-i.kept c.index.result.now (omega (arith, c.loop-i.invariant.kept)) ∙ next.1;
      pruned = step_keep g.F.Fact.key g.F.Fact.within c.args.facts.now.items c.loop-i.facts.items c.loop-i.kept c.loop-i.i c.index.result.now low next.0 c.loop-i.invariant.pruned
          (step_alone g.F.Fact.key g.F.Fact.within c.args.facts.now.items c.loop-i.facts.items c.loop-i.kept c.loop-i.i c.index.result.now c.loop-i.last (omega (arith, low)) c.loop-i.invariant.ends next.0 c.loop-i.invariant.pruned free);
    }
