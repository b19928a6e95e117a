use Rattle.pyramid.proofs.Prelude.{◌≡◌, ◌-◌, sym, ◌∙◌, arith, [], suc, first_hit, none_more}
use Rattle.pyramid.proofs.pyramid.newest_flushed.Goals as goal

pub returns-in-Some : goal.returns-in-Some
returns-in-Some g c =
    let step : suc (c.loop-i.i - 1) ≡ c.loop-i.i = omega (arith, c.loop-i-test.true) in
    sym (first_hit g.F.Fact.key g.F.Fact.number c.args.key c.args.patches.now [] (c.loop-i.i - 1) c.index-patches-i.result c.in-Some.fact c.requires
    (omega (arith, c.loop-i-test.true, c.loop-i.invariant.within)) c.index-patches-i.is (rw step c.loop-i.invariant.none) (sym c.newest.ensures ∙ c.in-Some.is))

pub loop-i-preserved : goal.loop-i-preserved
loop-i-preserved g c =
    let step : suc (c.loop-i.i - 1) ≡ c.loop-i.i = omega (arith, c.loop-i-test.true) in
    record {
      within = omega (arith, c.loop-i.invariant.within);
      none = none_more g.F.Fact.key g.F.Fact.number c.args.key c.args.patches.now (c.loop-i.i - 1) c.index-patches-i.result
          (omega (arith, c.loop-i-test.true, c.loop-i.invariant.within)) c.index-patches-i.is (rw step c.loop-i.invariant.none) (sym c.newest.ensures ∙ c.in_default.is);
    }
