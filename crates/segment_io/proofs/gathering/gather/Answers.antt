use Rattle.segment_io.proofs.Prelude.{◌≡◌, ◌+◌, length, arith, ◌∙◌, length-set, shard_of, still_place}
use Rattle.segment_io.proofs.Gathers.{gathers_none, gathers_one, whole_unit}
use Rattle.segment_io.proofs.gathering.gather.Goals as goal

pub loop-shard-init : goal.loop-shard-init
loop-shard-init g c = record {
  gathers = gathers_none (g.S.Shelf.shelf c.args.shelf.now) c.args.places.now c.args.stripe c.args.unknown.now c.args.shards.now (g.met.S.Shelf.is_shelf c.args.shelf.now);
  flags = omega arith;
  nine = omega arith;
  rest = g.met.S.Shelf.shelf_rest_stays.reflexive c.args.shelf.now;
}

pub read_part-requires-clause-place : goal.read_part-requires-clause-place
read_part-requires-clause-place g c = still_place c.loop-shard.invariant.gathers.continues (c.requires.places.each c.loop-shard.shard c.loop-shard-test.true)

pub loop-shard-preserved : goal.loop-shard-preserved
loop-shard-preserved g c =
    let inv = c.loop-shard.invariant in
    let x = c.read_part.ensures in
    let size : length (shard_of c.loop-shard.shards c.loop-shard.shard) ≡ 4096 = omega arith in
    record {
      gathers = gathers_one (g.S.Shelf.shelf c.args.shelf.now) (g.S.Shelf.shelf c.loop-shard.shelf) (g.S.Shelf.shelf c.read_part.new.shelf) c.args.places.now c.args.stripe c.args.unknown.now c.loop-shard.unknown c.loop-shard.shards c.loop-shard.shard
          c.read_part.result _ c.read_part.new.into c.requires.places c.loop-shard-test.true inv.flags inv.nine inv.gathers x.ran.on.continues x.looks x.ran.on.writes x.ran.on.others x.read (whole_unit (g.S.Shelf.shelf c.loop-shard.shelf) c.args.places.now (c.args.stripe + 1) c.loop-shard.shard _ size);
      flags = length-set c.loop-shard.unknown c.loop-shard.shard c.read_part.result ∙ inv.flags;
      nine = length-set c.loop-shard.shards c.loop-shard.shard c.read_part.new.into ∙ inv.nine;
      rest = g.met.S.Shelf.shelf_rest_stays.transitive _ _ _ inv.rest x.ran.rest;
    }

pub returns-clause-read : goal.returns-clause-read
returns-clause-read g c shard lt = c.loop-shard.invariant.gathers.passed shard (omega (arith, lt, c.loop-shard-test.false))
