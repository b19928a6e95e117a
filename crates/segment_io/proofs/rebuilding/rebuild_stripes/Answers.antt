use Rattle.segment_io.proofs.Prelude.{arith, err_from_is_err_and, is_unknown, still_places}
use Rattle.segment_io.proofs.Targets.{rebuilds_none, rebuilds_more, rebuilt_none, rebuilt_more, fault_in_all}
use Rattle.segment_io.proofs.rebuilding.rebuild_stripes.Goals as goal

pub loop-stripe-init : goal.loop-stripe-init
loop-stripe-init g c = record {
  run = rebuilds_none (g.S.Shelf.shelf c.args.shelf.now) c.args.places.now c.args.shard c.args.stripes c.args.unknown.now (g.met.S.Shelf.is_shelf c.args.shelf.now) c.requires.wanted;
  done = λ h. rebuilt_none (g.S.Shelf.shelf c.args.shelf.now) c.args.places.now c.args.shard (is_unknown c.args.unknown.now);
  rest = g.met.S.Shelf.shelf_rest_stays.reflexive c.args.shelf.now;
}

pub rebuild_stripe-requires-clause-places : goal.rebuild_stripe-requires-clause-places
rebuild_stripe-requires-clause-places g c = still_places c.loop-stripe.invariant.run.continues c.requires.places

pub rebuild_stripe-requires-clause-wanted : goal.rebuild_stripe-requires-clause-wanted
rebuild_stripe-requires-clause-wanted g c = c.loop-stripe.invariant.run.wanted

pub returns-in_err-rebuild_stripe-clause-run : goal.returns-in_err-rebuild_stripe-clause-run
returns-in_err-rebuild_stripe-clause-run g c =
    rebuilds_more (g.S.Shelf.shelf c.args.shelf.now) (g.S.Shelf.shelf c.loop-stripe.shelf) (g.S.Shelf.shelf c.rebuild_stripe.new.shelf) c.args.places.now c.args.shard c.loop-stripe.stripe c.args.stripes (is_unknown c.args.unknown.now) c.loop-stripe.unknown c.rebuild_stripe.new.unknown
    (g.met.S.Shelf.is_shelf c.rebuild_stripe.new.shelf) c.loop-stripe-test.true c.loop-stripe.invariant.run c.rebuild_stripe.ensures.run

pub returns-in_err-rebuild_stripe-clause-fault : goal.returns-in_err-rebuild_stripe-clause-fault
returns-in_err-rebuild_stripe-clause-fault g c =
    let r = err_from_is_err_and c.from_residual.result c.from_residual.ensures.1 in
    rw (r.1, r.2) (fault_in_all (g.S.Shelf.shelf c.args.shelf.now) (g.S.Shelf.shelf c.loop-stripe.shelf) (g.S.Shelf.shelf c.rebuild_stripe.new.shelf) c.args.places.now (is_unknown c.args.unknown.now) c.loop-stripe.unknown c.args.shard c.in_err-rebuild_stripe.field-0.0
    (g.met.S.Shelf.is_shelf c.rebuild_stripe.new.shelf) c.loop-stripe.invariant.run.continues c.rebuild_stripe.ensures.run.continues c.loop-stripe.invariant.run.tried c.in_err-rebuild_stripe.ensures.fault)

pub returns-in_err-rebuild_stripe-clause-rest : goal.returns-in_err-rebuild_stripe-clause-rest
returns-in_err-rebuild_stripe-clause-rest g c = g.met.S.Shelf.shelf_rest_stays.transitive _ _ _ c.loop-stripe.invariant.rest c.rebuild_stripe.ensures.rest

pub loop-stripe-preserved : goal.loop-stripe-preserved
loop-stripe-preserved g c =
    let a = g.S.Shelf.shelf c.args.shelf.now in
    let b = g.S.Shelf.shelf c.loop-stripe.shelf in
    let n = g.S.Shelf.shelf c.rebuild_stripe.new.shelf in
    let inv = c.loop-stripe.invariant in
    let x = c.rebuild_stripe.ensures in
    record {
      run = rebuilds_more a b n c.args.places.now c.args.shard c.loop-stripe.stripe c.args.stripes (is_unknown c.args.unknown.now) c.loop-stripe.unknown c.rebuild_stripe.new.unknown (g.met.S.Shelf.is_shelf c.rebuild_stripe.new.shelf) c.loop-stripe-test.true inv.run x.run;
      done = λ h. rebuilt_more a b n c.args.places.now c.args.shard c.loop-stripe.stripe c.args.stripes (is_unknown c.args.unknown.now) c.loop-stripe.unknown c.rebuild_stripe.new.unknown c.requires.places c.requires.shard h c.requires.wanted inv.run x.run
          (c.in_ok-rebuild_stripe.ensures.rebuilt (inv.run.continues.honest h)) (inv.done h);
      rest = g.met.S.Shelf.shelf_rest_stays.transitive _ _ _ inv.rest x.rest;
    }

pub returns-clause-rebuilt : goal.returns-clause-rebuilt
returns-clause-rebuilt g c h stripe whole lt = c.loop-stripe.invariant.done h stripe whole (omega (arith, lt, c.loop-stripe-test.false))
