use Rattle.pyramid.proofs.Prelude.{◌+◌, refl, ap, sym, ◌∙◌, get_or, arith, None, length-set, option_or}
use Rattle.pyramid.proofs.WalkLemmas.{none_in_front, all_past, put_one}
use Rattle.pyramid.proofs.walk.put_newest.Goals as goal

pub loop-at-init : goal.loop-at-init
loop-at-init g c = record {
  within = c.start_of-at.ensures.within;
  above = c.start_of-at.ensures.above;
  put = λ i l. rw (none_in_front g.F.Fact.key g.F.Fact.number (c.args.from + i) c.args.from c.start_of-at.result c.args.facts.now c.start_of-at.ensures.within (omega arith) c.start_of-at.ensures.below) refl;
}

pub returns-in-None : goal.returns-in-None
returns-in-None g c = λ i l. c.loop-at.invariant.put i l ∙ ap (λ o. option_or o (get_or c.args.out.now i None)) (sym (all_past g.F.Fact.key g.F.Fact.number (c.args.from + i) c.args.facts.now c.loop-at.at c.index-facts-at.result
    c.requires c.loop-at-test.true c.index-facts-at.is (omega (arith, c.key.ensures, c.in-None.ensures.absent, l))))

pub loop-at-preserved : goal.loop-at-preserved
loop-at-preserved g c = record {
  within = omega (arith, c.loop-at-test.true);
  above = λ j d le l. c.loop-at.invariant.above j d (omega (arith, le)) l;
  put = λ i l. put_one g.F.Fact.key g.F.Fact.number c.args.facts.now c.args.from c.loop-at.at c.in-Some.place c.index-facts-at.result c.loop-at.out c.args.out.now c.requires c.loop-at-test.true c.index-facts-at.is
      c.in-Some.ensures.there.0 (sym c.key.ensures ∙ c.in-Some.ensures.there.1) c.loop-at.invariant.put i (omega (arith, rw length-set at l));
}
