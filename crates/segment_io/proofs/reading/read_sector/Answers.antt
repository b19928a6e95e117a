use Rattle.segment_io.proofs.Prelude.{rules, take, drop, ◌≡◌, ◌<◌, ◌+◌, ◌*◌, ◌-◌, true, sym, ◌∙◌, ap, arith, slice_set, Device, Only, continues_refl, ran_then, ran_more, bytes_at, drive_of, IsOnPlace, err_from_is_err_and, shard_of, is_missing_in, Tried}
use Rattle.segment_io.proofs.Tried.{tried_none, tried_one, lost_in_all, is_on}
use Rattle.segment_io.proofs.Gathers.{looks_then}
use Rattle.segment_io.proofs.OneSector.{IsPositionOf, in_shards, read_directly}
use Rattle.segment_io.proofs.reading.read_sector.Goals as goal

pub returns-then-not-is_unknown-clause-sector : goal.returns-then-not-is_unknown-clause-sector
returns-then-not-is_unknown-clause-sector g c h view bytes shows stands =
    let p = c.of-position.result in
    let e = c.of-position.ensures in
    let of : IsPositionOf c.args.index p = record { stripe = e.stripe; shard = e.shard; eighth = e.eighth; bounds = e.bounds } in
    c.new.ensures
    ∙ read_directly (g.S.Shelf.shelf c.args.shelf.now) (g.S.Shelf.shelf c.read_part-is_unknown.new.shelf) c.args.places.now c.args.missing.now c.args.index p _ c.read_part-is_unknown.new.into view bytes
    c.requires.places h of (c.missing_shards-unknown.ensures p.shard (omega (arith, e.bounds.shard))) c.if-not-is_unknown.ensures.read shows stands

pub returns-in_err-read_stripe-clause-lost : goal.returns-in_err-read_stripe-clause-lost
returns-in_err-read_stripe-clause-lost g c =
    let r = err_from_is_err_and c.from_residual.result c.from_residual.ensures.1 in
    let p = c.of-position.result in
    let x = c.read_part-is_unknown.ensures in
    let a = g.S.Shelf.shelf c.args.shelf.now in
    let b = g.S.Shelf.shelf c.read_part-is_unknown.new.shelf in
    let n = g.S.Shelf.shelf c.read_stripe.new.shelf in
    let places = c.args.places.now in
    let flags = c.missing_shards-unknown.result in
    let lt : p.shard < 9 = omega (arith, c.of-position.ensures.bounds.shard) in
    let tried : Tried a b places (is_missing_in c.args.missing.now places) (slice_set flags p.shard true) =
    tried_one a a b places (is_missing_in c.args.missing.now places) flags p.shard true _ _ _ c.requires.places (g.met.S.Shelf.is_shelf c.read_part-is_unknown.new.shelf) (continues_refl a) x.ran.on.continues lt (omega arith)
    (tried_none a places (is_missing_in c.args.missing.now places) flags c.missing_shards-unknown.ensures) c.if-not-is_unknown.ensures.read x.ran.on.others in
    rw (r.1, r.2) (lost_in_all a b n places (is_missing_in c.args.missing.now places) (slice_set flags p.shard true) c.in_err-read_stripe.field-0.0.drives (g.met.S.Shelf.is_shelf c.read_stripe.new.shelf) x.ran.on.continues c.read_stripe.ensures.ran.on.continues tried c.in_err-read_stripe.ensures.lost)

pub returns-clause-sector : goal.returns-clause-sector
returns-clause-sector g c h view bytes shows stands =
    let p = c.of-position.result in
    let e = c.of-position.ensures in
    let x = c.read_part-is_unknown.ensures in
    let of : IsPositionOf c.args.index p = record { stripe = e.stripe; shard = e.shard; eighth = e.eighth; bounds = e.bounds } in
    let s = in_shards view c.args.places.now c.args.index p bytes of stands in
    let a = g.S.Shelf.shelf c.args.shelf.now in
    let b = g.S.Shelf.shelf c.read_part-is_unknown.new.shelf in
    let n = g.S.Shelf.shelf c.read_stripe.new.shelf in
    let places = c.args.places.now in
    let flags = c.missing_shards-unknown.result in
    let lt : p.shard < 9 = omega (arith, e.bounds.shard) in
    let tried : Tried a b places (is_missing_in c.args.missing.now places) (slice_set flags p.shard true) =
    tried_one a a b places (is_missing_in c.args.missing.now places) flags p.shard true _ _ _ c.requires.places (g.met.S.Shelf.is_shelf c.read_part-is_unknown.new.shelf) (continues_refl a) x.ran.on.continues lt (omega arith)
    (tried_none a places (is_missing_in c.args.missing.now places) flags c.missing_shards-unknown.ensures) c.if-not-is_unknown.ensures.read x.ran.on.others in
    let whole = c.in_ok-read_stripe.ensures.read (x.ran.on.continues.honest h) s.0 (is_on a b n places c.args.missing.now (slice_set flags p.shard true) p.stripe view s.0 c.requires.places (x.looks.same h) tried shows s.1) in
    let from = 512 * p.eighth in
    let all : 512 ≡ from + 512 - from = omega arith in
    let part = shard_of c.read_stripe.new.shards p.shard in
    let copied : c.copy_from_slice.new.self ≡ take (from + 512 - from) (drop from part) = search rules in
    c.new-2.ensures ∙ copied ∙ sym (ap (λ k. take k (drop from part)) all) ∙ ap (λ ss. bytes_at (512 * p.eighth) 512 (shard_of ss p.shard)) whole ∙ sym s.2

pub returns-in_err-read_stripe-clause-looks : goal.returns-in_err-read_stripe-clause-looks
returns-in_err-read_stripe-clause-looks g c = looks_then c.read_part-is_unknown.ensures.ran.on.continues c.read_part-is_unknown.ensures.looks c.read_stripe.ensures.looks

pub returns-clause-looks : goal.returns-clause-looks
returns-clause-looks g c = looks_then c.read_part-is_unknown.ensures.ran.on.continues c.read_part-is_unknown.ensures.looks c.read_stripe.ensures.looks

pub returns-in_err-read_stripe-clause-ran : goal.returns-in_err-read_stripe-clause-ran
returns-in_err-read_stripe-clause-ran g c =
    let on : (d : Device) → Only (drive_of c.args.places.now c.of-position.result.shard) d → IsOnPlace c.args.places.now d = λ d e. (c.of-position.result.shard, omega (arith, c.of-position.ensures.bounds.shard), e) in
    ran_then g.met.S.Shelf.shelf_rest_stays (ran_more on (λ d i w. w) c.read_part-is_unknown.ensures.ran) c.read_stripe.ensures.ran

pub returns-clause-ran : goal.returns-clause-ran
returns-clause-ran g c =
    let on : (d : Device) → Only (drive_of c.args.places.now c.of-position.result.shard) d → IsOnPlace c.args.places.now d = λ d e. (c.of-position.result.shard, omega (arith, c.of-position.ensures.bounds.shard), e) in
    ran_then g.met.S.Shelf.shelf_rest_stays (ran_more on (λ d i w. w) c.read_part-is_unknown.ensures.ran) c.read_stripe.ensures.ran
