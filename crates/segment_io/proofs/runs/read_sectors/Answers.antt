use Rattle.segment_io.proofs.Prelude.{◌≡◌, ◌+◌, ◌*◌, ◌%◌, ◌≤◌, length, arith, slice_range, err_from_is_err_and, length-between, is_unknown, is_missing_in}
use Rattle.segment_io.proofs.Tried.{lost_in_all}
use Rattle.segment_io.proofs.Tries.{tries_then}
use Rattle.segment_io.proofs.Targets.{lost_as}
use Rattle.segment_io.proofs.Sectors.{run_holds, run_shows, sector_of_run, sector_shown}
use Rattle.segment_io.proofs.Gathers.{looks_then}
use Rattle.segment_io.proofs.runs.read_sectors.Goals as goal

pub returns-in_err-read_in_stripe-clause-lost : goal.returns-in_err-read_in_stripe-clause-lost
returns-in_err-read_in_stripe-clause-lost g c =
    let r = err_from_is_err_and c.from_residual.result c.from_residual.ensures.1 in
    let a = g.S.Shelf.shelf c.args.shelf.now in
    let n = g.S.Shelf.shelf c.read_in_stripe.new.shelf in
    let places = c.args.places.now in
    let drives = c.in_err-read_in_stripe.field-0.0.drives in
    rw (r.1, r.2) (lost_as a n places (is_unknown c.missing_shards-unknown.result) (is_missing_in c.args.missing.now places) drives c.missing_shards-unknown.ensures
    (lost_in_all a (g.S.Shelf.shelf c.loop-done.shelf) n places (is_unknown c.missing_shards-unknown.result) c.loop-done.unknown drives
    (g.met.S.Shelf.is_shelf c.read_in_stripe.new.shelf) c.loop-done.invariant.tries.continues c.read_in_stripe.ensures.ran.on.continues c.loop-done.invariant.tries.tried c.in_err-read_in_stripe.ensures.lost))

pub returns-in_err-read_in_stripe-clause-ran : goal.returns-in_err-read_in_stripe-clause-ran
returns-in_err-read_in_stripe-clause-ran g c =
    let x = c.read_in_stripe.ensures in
    let tries = tries_then (g.S.Shelf.shelf c.args.shelf.now) (g.S.Shelf.shelf c.loop-done.shelf) (g.S.Shelf.shelf c.read_in_stripe.new.shelf) c.args.places.now (is_unknown c.missing_shards-unknown.result) c.loop-done.unknown c.read_in_stripe.new.unknown
    (g.met.S.Shelf.is_shelf c.read_in_stripe.new.shelf) c.loop-done.invariant.tries (record { continues = x.ran.on.continues; tried = x.tried; looks = x.looks; writes = x.ran.on.writes; others = x.ran.on.others }) in
    record { on = record { continues = tries.continues; others = tries.others; writes = tries.writes }; rest = g.met.S.Shelf.shelf_rest_stays.transitive _ _ _ c.loop-done.invariant.rest x.ran.rest }

pub returns-in_err-read_in_stripe-clause-looks : goal.returns-in_err-read_in_stripe-clause-looks
returns-in_err-read_in_stripe-clause-looks g c = let tries = c.loop-done.invariant.tries in looks_then tries.continues tries.looks c.read_in_stripe.ensures.looks

pub loop-done-preserved : goal.loop-done-preserved
loop-done-preserved g c =
    let a = g.S.Shelf.shelf c.args.shelf.now in
    let b = g.S.Shelf.shelf c.loop-done.shelf in
    let n = g.S.Shelf.shelf c.read_in_stripe.new.shelf in
    let places = c.args.places.now in
    let said = is_unknown c.missing_shards-unknown.result in
    let inv = c.loop-done.invariant in
    let x = c.read_in_stripe.ensures in
    let start = 512 * c.args.index in
    let done = c.loop-done.done in
    let size = c.min-size.result in
    let into = c.loop-done.into in
    let part = c.read_in_stripe.new.into in
    let fits : done + size ≤ length into = omega arith in
    let cut : length (slice_range into done (done + size)) ≡ size = omega (arith, length-between into done (done + size) fits) in
    let long : length part ≡ size = omega (arith, cut) in
    let inside : (start + done) % 28672 + size ≤ 28672 = omega arith in
    record {
      within = omega arith;
      aligned = omega arith;
      tries = tries_then a b n places said c.loop-done.unknown c.read_in_stripe.new.unknown (g.met.S.Shelf.is_shelf c.read_in_stripe.new.shelf) inv.tries (record { continues = x.ran.on.continues; tried = x.tried; looks = x.looks; writes = x.ran.on.writes; others = x.ran.on.others });
      holds = λ h. run_holds a b n places said c.loop-done.unknown start done size _ _ into part fits long cut inside h inv.tries x.ran.on.continues (c.in_ok-read_in_stripe.ensures.read (inv.tries.continues.honest h)) (inv.holds h);
      shows = λ h. run_shows a b n places said c.loop-done.unknown start done size _ _ into part fits long cut inside h inv.tries x.ran.on.continues (c.in_ok-read_in_stripe.ensures.read (inv.tries.continues.honest h)) (inv.shows h);
      rest = g.met.S.Shelf.shelf_rest_stays.transitive _ _ _ inv.rest x.ran.rest;
    }

pub returns-clause-sectors : goal.returns-clause-sectors
returns-clause-sectors g c h view j bytes fits shows stands =
    sector_of_run (g.S.Shelf.shelf c.args.shelf.now) c.args.places.now c.args.missing.now c.missing_shards-unknown.result c.args.index j c.loop-done.done c.loop-done.into view bytes c.requires.places c.missing_shards-unknown.ensures
    (c.loop-done.invariant.holds h) (omega (arith, fits, c.loop-done-test.false)) c.loop-done.invariant.within shows stands

pub returns-clause-shown : goal.returns-clause-shown
returns-clause-shown g c h view j fits shows =
    sector_shown (g.S.Shelf.shelf c.args.shelf.now) (g.S.Shelf.shelf c.loop-done.shelf) c.args.places.now c.args.missing.now c.missing_shards-unknown.result c.args.index j c.loop-done.done c.loop-done.into view (g.met.S.Shelf.is_shelf c.args.shelf.now) h c.requires.places c.missing_shards-unknown.ensures
    (c.loop-done.invariant.shows h) (omega (arith, fits, c.loop-done-test.false)) c.loop-done.invariant.within (omega (arith, fits, c.requires.run)) shows
