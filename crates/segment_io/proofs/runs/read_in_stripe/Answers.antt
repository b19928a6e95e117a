use Rattle.segment_io.proofs.Prelude.{arith, err_from_is_err_and, ran_then, is_unknown}
use Rattle.segment_io.proofs.Tried.{tried_then, lost_in_all}
use Rattle.segment_io.proofs.Shown.{stripe_read}
use Rattle.segment_io.proofs.Gathers.{looks_then}
use Rattle.segment_io.proofs.runs.read_in_stripe.Goals as goal

pub returns-in_err-read_stripe-clause-tried : goal.returns-in_err-read_stripe-clause-tried
returns-in_err-read_stripe-clause-tried g c =
    let x = c.read_directly.ensures in
    let y = c.read_stripe.ensures in
    tried_then (g.S.Shelf.shelf c.args.shelf.now) (g.S.Shelf.shelf c.read_directly.new.shelf) (g.S.Shelf.shelf c.read_stripe.new.shelf) c.args.places.now (is_unknown c.args.unknown.now) c.read_directly.new.unknown c.read_stripe.new.unknown
    (g.met.S.Shelf.is_shelf c.read_stripe.new.shelf) x.ran.on.continues y.ran.on.continues x.tried y.tried

pub returns-in_err-read_stripe-clause-lost : goal.returns-in_err-read_stripe-clause-lost
returns-in_err-read_stripe-clause-lost g c =
    let r = err_from_is_err_and c.from_residual.result c.from_residual.ensures.1 in
    let x = c.read_directly.ensures in
    rw (r.1, r.2) (lost_in_all (g.S.Shelf.shelf c.args.shelf.now) (g.S.Shelf.shelf c.read_directly.new.shelf) (g.S.Shelf.shelf c.read_stripe.new.shelf) c.args.places.now (is_unknown c.args.unknown.now) c.read_directly.new.unknown c.in_err-read_stripe.field-0.0.drives
    (g.met.S.Shelf.is_shelf c.read_stripe.new.shelf) x.ran.on.continues c.read_stripe.ensures.ran.on.continues x.tried c.in_err-read_stripe.ensures.lost)

pub returns-clause-tried : goal.returns-clause-tried
returns-clause-tried g c =
    let x = c.read_directly.ensures in
    let y = c.read_stripe.ensures in
    tried_then (g.S.Shelf.shelf c.args.shelf.now) (g.S.Shelf.shelf c.read_directly.new.shelf) (g.S.Shelf.shelf c.read_stripe.new.shelf) c.args.places.now (is_unknown c.args.unknown.now) c.read_directly.new.unknown c.read_stripe.new.unknown
    (g.met.S.Shelf.is_shelf c.read_stripe.new.shelf) x.ran.on.continues y.ran.on.continues x.tried y.tried

pub returns-clause-read : goal.returns-clause-read
returns-clause-read g c h =
    let x = c.read_directly.ensures in
    let y = c.in_ok-read_stripe.ensures in
    let b = x.ran.on.continues.honest h in
    stripe_read (g.S.Shelf.shelf c.args.shelf.now) (g.S.Shelf.shelf c.read_directly.new.shelf) (g.S.Shelf.shelf c.read_stripe.new.shelf) c.args.places.now (is_unknown c.args.unknown.now) c.read_directly.new.unknown c.args.stripe c.args.offset _ c.read_stripe.new.shards c.copy_data.new.into
    (x.looks.same h) x.ran.on.continues c.read_stripe.ensures.ran.on.continues x.tried c.requires.fits (y.read b) (y.shown b) (λ i lt. c.copy_data.ensures i (omega (arith, lt)))

pub returns-in_err-read_stripe-clause-looks : goal.returns-in_err-read_stripe-clause-looks
returns-in_err-read_stripe-clause-looks g c = looks_then c.read_directly.ensures.ran.on.continues c.read_directly.ensures.looks c.read_stripe.ensures.looks

pub returns-clause-looks : goal.returns-clause-looks
returns-clause-looks g c = looks_then c.read_directly.ensures.ran.on.continues c.read_directly.ensures.looks c.read_stripe.ensures.looks

pub returns-in_err-read_stripe-clause-ran : goal.returns-in_err-read_stripe-clause-ran
returns-in_err-read_stripe-clause-ran g c = ran_then g.met.S.Shelf.shelf_rest_stays c.read_directly.ensures.ran c.read_stripe.ensures.ran

pub returns-clause-ran : goal.returns-clause-ran
returns-clause-ran g c = ran_then g.met.S.Shelf.shelf_rest_stays c.read_directly.ensures.ran c.read_stripe.ensures.ran
