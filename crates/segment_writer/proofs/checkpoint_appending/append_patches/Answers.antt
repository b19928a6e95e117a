use Rattle.segment_writer.proofs.Prelude.{◌≡◌, length, refl, arith, Some, slice_get, slice_get_read, slice_get_within, ran_none, ran_then, loses_none, loses_then}
use Rattle.segment_writer.proofs.CheckpointStored.{stored_later}
use Rattle.segment_writer.proofs.CheckpointAppended.{on_patches, stand_more, open_none, open_more}
use Rattle.segment_writer.proofs.PatchLayout.{headed_later}
use Rattle.segment_writer.proofs.checkpoint_appending.append_patches.Goals as goal

pub loop-index-init : goal.loop-index-init
loop-index-init g c =
    record {
      opened = open_none c.args.patches.now c.args.lost.now.drives c.args.lists.now c.requires.lists;
      ran = ran_none g.met.S.Shelf.shelf_rest_stays c.args.shelf.now (g.met.S.Shelf.is_shelf c.args.shelf.now);
      lost = loses_none (g.S.Shelf.shelf c.args.shelf.now) c.args.lost.now.drives;
      stand = λ h i p lt. absurd (omega (arith, lt));
    }

pub append_table-requires-clause-stored : goal.append_table-requires-clause-stored
append_table-requires-clause-stored g c =
    let ps = c.args.patches.now in
    let index = c.loop-index.index in
    let p = c.at-patch.result in
    let at : slice_get ps index ≡ Some p = slice_get_read ps (length ps) index p refl (omega arith) c.at-patch.ensures in
    stored_later (g.S.Shelf.shelf c.args.shelf.now) (g.S.Shelf.shelf c.loop-index.shelf) p _ c.loop-index.invariant.ran.on.continues (c.requires.patches.stored index p at)

pub append_table-requires-clause-headed : goal.append_table-requires-clause-headed
append_table-requires-clause-headed g c =
    let ps = c.args.patches.now in
    let index = c.loop-index.index in
    let p = c.at-patch.result in
    let at : slice_get ps index ≡ Some p = slice_get_read ps (length ps) index p refl (omega arith) c.at-patch.ensures in
    headed_later (g.S.Shelf.shelf c.args.shelf.now) (g.S.Shelf.shelf c.loop-index.shelf) p c.loop-index.invariant.ran.on.continues (c.requires.patches.headed index p at)

pub loop-index-preserved : goal.loop-index-preserved
loop-index-preserved g c =
    let a = g.S.Shelf.shelf c.args.shelf.now in
    let b = g.S.Shelf.shelf c.loop-index.shelf in
    let d = g.S.Shelf.shelf c.append_table.new.shelf in
    let plan = c.args.plan.now in
    let ps = c.args.patches.now in
    let index = c.loop-index.index in
    let p = c.at-patch.result in
    let inv = c.loop-index.invariant in
    let x = c.append_table.ensures in
    let was = c.loop-index.lost.drives in
    let now = c.append_table.new.lost.drives in
    let at : slice_get ps index ≡ Some p = slice_get_read ps (length ps) index p refl (omega arith) c.at-patch.ensures in
    record {
      opened = open_more ps was now c.loop-index.lists index p c.append_table.new.list at x.lost.stays x.opened inv.opened;
      ran = ran_then g.met.S.Shelf.shelf_rest_stays inv.ran (on_patches ps index p 1 15 at x.ran);
      lost = loses_then a b d c.args.lost.now.drives was now (g.met.S.Shelf.is_shelf c.append_table.new.shelf) inv.ran.on.continues x.ran.on.continues inv.lost x.lost;
      stand = λ h. stand_more b d plan ps was now index p c.requires.patches.apart at x.lost (x.ran.on.writes (inv.ran.on.continues.honest h)) (inv.stand h) (x.stand (inv.ran.on.continues.honest h));
    }

pub returns-clause-stand : goal.returns-clause-stand
returns-clause-stand g c h i p at = c.loop-index.invariant.stand h i p (omega (arith, slice_get_within c.args.patches.now i p at, c.loop-index-test.false)) at
