use Rattle.segment_io.proofs.Prelude.{refl, ◌+◌, true, ◌∙◌, ap, arith, slice_set, err_from_is_err_and, bytes_at, ran_then, ran_sync, place_of, drive_of, write_unit_at, is_unknown, is_wanted}
use Rattle.segment_io.proofs.Targets.{fault_as, wanted_flags, shown_rebuilt}
use Rattle.segment_io.proofs.rebuilding.rebuild_shard.Goals as goal

pub returns-in_err-rebuild_stripes-clause-fault : goal.returns-in_err-rebuild_stripes-clause-fault
returns-in_err-rebuild_stripes-clause-fault g c =
    let r = err_from_is_err_and c.from_residual.result c.from_residual.ensures.1 in
    let flags = c.missing_shards-unknown.result in
    let places = c.args.places.now in
    rw (r.1, r.2) (fault_as (g.S.Shelf.shelf c.args.shelf.now) (g.S.Shelf.shelf c.rebuild_stripes.new.shelf) places (is_unknown (slice_set flags c.args.shard true)) (is_wanted c.args.shard c.args.missing.now places) c.args.shard c.in_err-rebuild_stripes.field-0.0
    (wanted_flags c.args.missing.now flags places c.args.shard (omega arith) c.requires.shard c.missing_shards-unknown.ensures) c.in_err-rebuild_stripes.ensures.fault)

pub returns-clause-rebuilt : goal.returns-clause-rebuilt
returns-clause-rebuilt g c h view stripe whole lt shows stands =
    let x = c.rebuild_stripes.ensures.run in
    let flags = c.missing_shards-unknown.result in
    let places = c.args.places.now in
    let d = drive_of places c.args.shard in
    let synced = c.sync-answer.ensures.device (x.continues.honest h) in
    ap (bytes_at (write_unit_at (place_of places c.args.shard) (stripe + 1)) 4096) synced.bytes
    ∙ shown_rebuilt (g.S.Shelf.shelf c.args.shelf.now) (g.S.Shelf.shelf c.rebuild_stripes.new.shelf) places c.args.missing.now c.args.shard c.args.stripes (is_unknown (slice_set flags c.args.shard true)) view stripe whole c.requires.places
    (wanted_flags c.args.missing.now flags places c.args.shard (omega arith) c.requires.shard c.missing_shards-unknown.ensures)
    (c.in_ok-rebuild_stripes.ensures.rebuilt h) lt shows stands

pub returns-then-is_err-clause-ran : goal.returns-then-is_err-clause-ran
returns-then-is_err-clause-ran g c =
    let x = c.rebuild_stripes.ensures in
    let y = c.sync-answer.ensures in
    ran_then g.met.S.Shelf.shelf_rest_stays (record { on = record { continues = x.run.continues; others = x.run.others; writes = x.run.writes }; rest = x.rest })
    (ran_sync (drive_of c.args.places.now c.args.shard) (c.args.shard, c.requires.shard, refl) (g.met.S.Shelf.is_shelf c.rebuild_stripes.new.shelf) y.time y.others y.rest y.device)

pub returns-clause-ran : goal.returns-clause-ran
returns-clause-ran g c =
    let x = c.rebuild_stripes.ensures in
    let y = c.sync-answer.ensures in
    ran_then g.met.S.Shelf.shelf_rest_stays (record { on = record { continues = x.run.continues; others = x.run.others; writes = x.run.writes }; rest = x.rest })
    (ran_sync (drive_of c.args.places.now c.args.shard) (c.args.shard, c.requires.shard, refl) (g.met.S.Shelf.is_shelf c.rebuild_stripes.new.shelf) y.time y.others y.rest y.device)
