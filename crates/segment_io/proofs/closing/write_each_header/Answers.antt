use Rattle.segment_io.proofs.Prelude.{◌≡◌, arith, header_unit, still_place}
use Rattle.segment_io.proofs.Progress.{started, one_more}
use Rattle.segment_io.proofs.closing.write_each_header.Goals as goal

pub loop-shard-init : goal.loop-shard-init
loop-shard-init g c = record {
  progress = started (g.S.Shelf.shelf c.args.shelf.now) c.args.places.now 0 1 c.args.lost.now.drives (λ k bytes. bytes ≡ header_unit c.args.header.now k) (g.met.S.Shelf.is_shelf c.args.shelf.now);
  rest = g.met.S.Shelf.shelf_rest_stays.reflexive c.args.shelf.now;
}

pub write_units-requires-clause-place : goal.write_units-requires-clause-place
write_units-requires-clause-place g c = still_place c.loop-shard.invariant.progress.continues (c.requires.places.each c.loop-shard.shard c.loop-shard-test.true)

pub loop-shard-preserved : goal.loop-shard-preserved
loop-shard-preserved g c =
    let inv = c.loop-shard.invariant in
    let x = c.write_units.ensures in
    record {
      progress = one_more (g.S.Shelf.shelf c.args.shelf.now) (g.S.Shelf.shelf c.loop-shard.shelf) (g.S.Shelf.shelf c.write_units.new.shelf) c.args.places.now 0 1
          c.args.lost.now.drives c.loop-shard.lost.drives c.write_units.new.lost.drives (λ k bytes. bytes ≡ header_unit c.args.header.now k) c.loop-shard.shard _ c.spell_header-unit.result
          c.requires.places c.loop-shard-test.true (omega arith) (g.met.S.Shelf.is_shelf c.write_units.new.shelf) inv.progress x.ran.on.continues x.lost c.spell_header-unit.ensures x.written x.ran.on.writes x.ran.on.others;
      rest = g.met.S.Shelf.shelf_rest_stays.transitive _ _ _ inv.rest x.ran.rest;
    }
