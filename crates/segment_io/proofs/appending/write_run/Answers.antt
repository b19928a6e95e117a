use Rattle.segment_io.proofs.Prelude.{◌+◌, length, arith, shard_of, shards_in, IsRunOf, still_place}
use Rattle.segment_io.proofs.Flat.{run_holds}
use Rattle.segment_io.proofs.Progress.{started, one_more}
use Rattle.segment_io.proofs.appending.write_run.Goals as goal

pub loop-shard-init : goal.loop-shard-init
loop-shard-init g c = record {
  progress = started (g.S.Shelf.shelf c.args.shelf.now) c.args.places.now (c.args.number + 1) (length c.args.stripes.now) c.args.lost.now.drives
      (λ shard bytes. IsRunOf (λ number. shard_of (shards_in c.args.stripes.now c.args.p.now c.args.q.now number) shard) (length c.args.stripes.now) bytes) (g.met.S.Shelf.is_shelf c.args.shelf.now);
  rest = g.met.S.Shelf.shelf_rest_stays.reflexive c.args.shelf.now;
}

pub write_units-requires-clause-place : goal.write_units-requires-clause-place
write_units-requires-clause-place g c = still_place c.loop-shard.invariant.progress.continues (c.requires.places.each c.loop-shard.shard c.loop-shard-test.true)

pub loop-shard-preserved : goal.loop-shard-preserved
loop-shard-preserved g c =
    let inv = c.loop-shard.invariant in
    let x = c.write_units.ensures in
    let run = c.run_of_shard-bytes.ensures in
    record {
      progress = one_more (g.S.Shelf.shelf c.args.shelf.now) (g.S.Shelf.shelf c.loop-shard.shelf) (g.S.Shelf.shelf c.write_units.new.shelf) c.args.places.now (c.args.number + 1) (length c.args.stripes.now)
          c.args.lost.now.drives c.loop-shard.lost.drives c.write_units.new.lost.drives (λ shard bytes. IsRunOf (λ number. shard_of (shards_in c.args.stripes.now c.args.p.now c.args.q.now number) shard) (length c.args.stripes.now) bytes)
          c.loop-shard.shard _ c.run_of_shard-bytes.result.now
          c.requires.places c.loop-shard-test.true run.size (g.met.S.Shelf.is_shelf c.write_units.new.shelf) inv.progress x.ran.on.continues x.lost run.units x.written x.ran.on.writes x.ran.on.others;
      rest = g.met.S.Shelf.shelf_rest_stays.transitive _ _ _ inv.rest x.ran.rest;
    }

pub returns-clause-written : goal.returns-clause-written
returns-clause-written g c h =
    run_holds (g.S.Shelf.shelf c.loop-shard.shelf) c.args.places.now c.loop-shard.lost.drives (c.args.number + 1) (length c.args.stripes.now)
    (λ number. shard_of (shards_in c.args.stripes.now c.args.p.now c.args.q.now number)) (λ shard within. c.loop-shard.invariant.progress.written h shard (omega (arith, within, c.loop-shard-test.false)))
