use Rattle.segment_io.proofs.Prelude.{refl, ran_then, ran_more, stripe_of, place_of, bytes_of, HoldsStripe, header_unit}
use Rattle.segment_io.proofs.InTurn.{same_units, same_stripe, synced_as, headers_come_last, on_drives}
use Rattle.segment_io.proofs.Views.{stripe_shown, holds_at_stop}
use Rattle.segment_io.proofs.open.Open.close.Goals as goal

pub returns-clause-headers : goal.returns-clause-headers
returns-clause-headers g c h =
    let x = c.sync_drives.ensures in
    let y = c.write_headers.ensures in
    let z = c.sync_drives-2.ensures in
    let at_c = y.ran.on.continues.honest (x.ran.on.continues.honest h) in
    same_units _ _ c.args.self.places c.write_headers.result.1.drives c.sync_drives-2.new.lost.drives 0 (header_unit c.args.header.now) z.lost (z.bytes at_c) (y.headers (x.ran.on.continues.honest h))

pub returns-clause-kept : goal.returns-clause-kept
returns-clause-kept g c h stripe shards holds =
    let x = c.sync_drives.ensures in
    let y = c.write_headers.ensures in
    let z = c.sync_drives-2.ensures in
    let at_c = y.ran.on.continues.honest (x.ran.on.continues.honest h) in
    same_stripe _ _ c.args.self.places c.write_headers.result.1.drives c.sync_drives-2.new.lost.drives stripe shards z.lost (z.bytes at_c)
    (y.kept (x.ran.on.continues.honest h) stripe shards (same_stripe _ _ c.args.self.places c.args.self.lost.drives c.sync_drives.new.lost.drives stripe shards x.lost (x.bytes h) holds))

pub returns-clause-synced : goal.returns-clause-synced
returns-clause-synced g c h drives of =
    let at_c = c.write_headers.ensures.ran.on.continues.honest (c.sync_drives.ensures.ran.on.continues.honest h) in
    synced_as (g.S.Shelf.shelf c.sync_drives-2.new.shelf) c.args.self.places c.drives-drives.result drives c.sync_drives-2.new.lost.drives c.drives-drives.ensures of (c.sync_drives-2.ensures.clean at_c)

pub returns-clause-reads : goal.returns-clause-reads
returns-clause-reads g c h stop view index shards may shows there holds =
    let x = c.sync_drives.ensures in
    let y = c.write_headers.ensures in
    let z = c.sync_drives-2.ensures in
    let at_c = y.ran.on.continues.honest (x.ran.on.continues.honest h) in
    let e = g.S.Shelf.shelf c.sync_drives-2.new.shelf in
    let places = c.args.self.places in
    let lost = c.sync_drives-2.new.lost.drives in
    let kept : HoldsStripe (bytes_of e) places lost (stripe_of index) shards =
    same_stripe (g.S.Shelf.shelf c.write_headers.new.shelf) e places c.write_headers.result.1.drives lost (stripe_of index) shards z.lost (z.bytes at_c)
    (y.kept (x.ran.on.continues.honest h) (stripe_of index) shards (same_stripe (g.S.Shelf.shelf c.args.shelf.now) (g.S.Shelf.shelf c.sync_drives.new.shelf) places c.args.self.lost.drives c.sync_drives.new.lost.drives (stripe_of index) shards x.lost (x.bytes h) holds)) in (
      shards,
      stripe_shown stop.image places lost view (stripe_of index) shards c.requires.places.nine there
          (holds_at_stop e places lost (stripe_of index) shards stop may (λ shard lt none. z.clean at_c (place_of places shard).slot (c.drives-drives.ensures.each shard lt) none) kept) shows,
      refl,
    )

pub returns-clause-in_turn : goal.returns-clause-in_turn
returns-clause-in_turn g c h =
    let x = c.sync_drives.ensures in
    let y = c.write_headers.ensures in
    let z = c.sync_drives-2.ensures in
    let at_b = x.ran.on.continues.honest h in
    headers_come_last (g.S.Shelf.shelf c.args.shelf.now) (g.S.Shelf.shelf c.sync_drives.new.shelf) (g.S.Shelf.shelf c.write_headers.new.shelf) (g.S.Shelf.shelf c.sync_drives-2.new.shelf)
    c.args.self.places c.args.self.stripes c.drives-drives.result c.sync_drives.new.lost.drives c.write_headers.result.1.drives c.sync_drives-2.new.lost.drives
    c.requires.places c.drives-drives.ensures x.ran.on.continues y.ran.on.continues (x.clean h) (x.bytes h) (x.ran.on.writes h) (y.ran.on.writes at_b) (z.ran.on.writes (y.ran.on.continues.honest at_b)) y.lost z.lost

pub returns-clause-ran : goal.returns-clause-ran
returns-clause-ran g c =
    let stays = g.met.S.Shelf.shelf_rest_stays in
    let on = on_drives c.args.self.places c.drives-drives.result c.drives-drives.ensures in
    ran_then stays (ran_then stays (ran_more on (λ d i w. absurd w) c.sync_drives.ensures.ran) c.write_headers.ensures.ran) (ran_more on (λ d i w. absurd w) c.sync_drives-2.ensures.ran)
