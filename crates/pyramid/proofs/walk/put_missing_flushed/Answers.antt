use Rattle.pyramid.proofs.Prelude.{◌≡◌, ◌+◌, ◌-◌, suc, [], get_or, arith, None}
use Rattle.pyramid.proofs.WalkLemmas.{under_more, under_filled}
use Rattle.pyramid.proofs.walk.put_missing_flushed.Goals as goal

pub returns-then-are_filled : goal.returns-then-are_filled
returns-then-are_filled g c = λ i l. under_filled g.F.Fact.key g.F.Fact.number (c.args.from + i) c.args.patches.now [] c.loop-left.left (get_or c.args.out.now i None) (get_or c.loop-left.out i None) c.requires
    (c.are_filled.ensures c.if-are_filled.true i l) (c.loop-left.invariant.put i l)

pub loop-left-preserved : goal.loop-left-preserved
loop-left-preserved g c =
    let step : suc (c.loop-left.left - 1) ≡ c.loop-left.left = omega (arith, c.loop-left-test.true) in
    record {
      within = omega (arith, c.loop-left.invariant.within);
      put = λ i l. under_more g.F.Fact.key g.F.Fact.number (c.args.from + i) c.args.patches.now [] (c.loop-left.left - 1) c.index-patches-left.result (get_or c.args.out.now i None) (get_or c.loop-left.out i None) (get_or c.put_missing.new.out i None)
          c.requires (omega (arith, c.loop-left-test.true, c.loop-left.invariant.within)) c.index-patches-left.is (rw step (c.loop-left.invariant.put i (omega (arith, l, c.put_missing.auto.out)))) (c.put_missing.ensures i l);
    }
