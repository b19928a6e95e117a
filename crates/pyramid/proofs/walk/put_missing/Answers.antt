use Rattle.pyramid.proofs.Prelude.{◌+◌, ap, sym, ◌∙◌, get_or, take, arith, None, length-set, get_or_default, option_or, newest_of, ascends_ordered}
use Rattle.pyramid.proofs.WalkLemmas.{none_in_front, all_past, put_absent, put_present, option_or-none, by_none, by_some}
use Rattle.pyramid.proofs.walk.put_missing.Goals.{then-is_none, else-is_none}
use Rattle.pyramid.proofs.walk.put_missing.Goals as goal

pub start_of-at-requires : goal.start_of-at-requires
start_of-at-requires g c = ascends_ordered g.F.Fact.key g.F.Fact.number c.args.facts.now c.requires

pub loop-at-init : goal.loop-at-init
loop-at-init g c = record {
  within = c.start_of-at.ensures.within;
  above = c.start_of-at.ensures.above;
  put = λ i l. sym (option_or-none (get_or c.args.out.now i None) (newest_of g.F.Fact.key g.F.Fact.number (c.args.from + i) (take c.start_of-at.result c.args.facts.now))
      (none_in_front g.F.Fact.key g.F.Fact.number (c.args.from + i) c.args.from c.start_of-at.result c.args.facts.now c.start_of-at.ensures.within (omega arith) c.start_of-at.ensures.below));
}

pub returns-in-None : goal.returns-in-None
returns-in-None g c = λ i l. c.loop-at.invariant.put i l ∙ ap (λ o. option_or (get_or c.args.out.now i None) o) (sym (all_past g.F.Fact.key g.F.Fact.number (c.args.from + i) c.args.facts.now c.loop-at.at c.index-facts-at.result
    (ascends_ordered g.F.Fact.key g.F.Fact.number c.args.facts.now c.requires) c.loop-at-test.true c.index-facts-at.is (omega (arith, c.key.ensures, c.in-None.ensures.absent, l))))

pub loop-at-preserved : goal.loop-at-preserved
loop-at-preserved g c = record {
  within = omega (arith, c.loop-at-test.true);
  above = λ j d le l. c.loop-at.invariant.above j d (omega (arith, le)) l;
  put = elim c.if-is_none.branch [
    | then-is_none w ↦ rw w.out-is (λ i l. put_absent g.F.Fact.key g.F.Fact.number c.args.facts.now c.args.from c.loop-at.at c.in-Some.place c.index-facts-at.result c.loop-at.out c.args.out.now c.requires
        (ascends_ordered g.F.Fact.key g.F.Fact.number c.args.facts.now c.requires) c.loop-at-test.true c.index-facts-at.is c.in-Some.ensures.there.0 (sym c.key.ensures ∙ c.in-Some.ensures.there.1)
        (sym (get_or_default c.loop-at.out c.in-Some.place c.index-out-place.result None c.in-Some.ensures.there.0) ∙ by_none (get_or c.loop-at.out c.in-Some.place c.index-out-place.result) w.if-is_none.ensures)
        c.loop-at.invariant.put i (omega (arith, rw length-set at l)))
    | else-is_none w ↦ rw w.out-is (λ i l. put_present g.F.Fact.key g.F.Fact.number c.args.facts.now c.args.from c.loop-at.at c.in-Some.place c.index-facts-at.result c.loop-at.out c.args.out.now c.requires
        c.loop-at-test.true c.index-facts-at.is c.in-Some.ensures.there.0 (sym c.key.ensures ∙ c.in-Some.ensures.there.1)
        (λ e. by_some (get_or c.loop-at.out c.in-Some.place c.index-out-place.result) w.if-is_none.ensures (get_or_default c.loop-at.out c.in-Some.place c.index-out-place.result None c.in-Some.ensures.there.0 ∙ e))
        c.loop-at.invariant.put i l)
  ];
}
