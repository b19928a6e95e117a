use Rattle.pyramid.proofs.Prelude.{◌≡◌, ◌+◌, ◌-◌, suc, arith, facts_of, none_more}
use Rattle.std.proofs.lemmas.Option.{IfSome_then}
use Rattle.pyramid.specs.lemmas.Layers.{none_then}
use Rattle.pyramid.proofs.RunLemmas.{none_of_all, none_said, run_of_all}
use Rattle.pyramid.proofs.runs.run_flushed.Goals as goal

pub returns-then-has_any-clause-some : goal.returns-then-has_any-clause-some
returns-then-has_any-clause-some g c =
    let step : suc (c.loop-left.left - 1) ≡ c.loop-left.left = omega (arith, c.loop-left-test.true) in
    IfSome_then c.run.result c.run.ensures.some (λ run h. run_of_all g.F.Fact.key g.F.Fact.number c.args.patches.now c.args.from c.args.len (c.loop-left.left - 1) c.index-patches-left.result c.requires.rises
    (omega (arith, c.loop-left-test.true, c.loop-left.invariant.within)) c.index-patches-left.is (rw step c.loop-left.invariant.none) run.now h)

pub returns-then-has_any-clause-none : goal.returns-then-has_any-clause-none
returns-then-has_any-clause-none g c =
    let step : suc (c.loop-left.left - 1) ≡ c.loop-left.left = omega (arith, c.loop-left-test.true) in
    let there = c.has_any.ensures.there c.if-has_any.true in
    none_then c.run.result c.run.ensures.none (λ none. none_of_all g.F.Fact.key g.F.Fact.number c.args.patches.now c.args.from c.args.len (c.loop-left.left - 1) c.index-patches-left.result c.requires.rises
    (omega (arith, c.loop-left-test.true, c.loop-left.invariant.within)) c.index-patches-left.is (rw step c.loop-left.invariant.none) there.0 there.1 there.2 there.3 none)

pub loop-left-preserved : goal.loop-left-preserved
loop-left-preserved g c =
    let step : suc (c.loop-left.left - 1) ≡ c.loop-left.left = omega (arith, c.loop-left-test.true) in
    record {
      within = omega (arith, c.loop-left.invariant.within);
      none = λ i l. none_more g.F.Fact.key g.F.Fact.number (c.args.from + i) c.args.patches.now (c.loop-left.left - 1) c.index-patches-left.result
          (omega (arith, c.loop-left-test.true, c.loop-left.invariant.within)) c.index-patches-left.is (rw step (c.loop-left.invariant.none i l)) (c.has_any.ensures.absent c.if-has_any.false i l);
    }

pub returns-clause-none : goal.returns-clause-none
returns-clause-none g c =
    let ended : c.loop-left.left ≡ 0 = omega (arith, c.loop-left-test.false) in
    none_said g.F.Fact.key g.F.Fact.number c.args.patches.now (facts_of c.args.patches.now) c.args.from c.args.len c.requires.some (rw ended at c.loop-left.invariant.none)
