use Rattle.segment_writer.proofs.Prelude.{◌≡◌, ◌<◌, get_or, length, refl, arith, Some, slice_get, slice_get-get_or, slice_get_read, ran_none, ran_then, bytes_of, loses_none, loses_then}
use Rattle.segment_writer.proofs.PatchLayout.{headed_later, may_be_headed, has_its_segments, open_under, patch_kept}
use Rattle.segment_writer.proofs.CheckpointAppended.{on_patches}
use Rattle.segment_writer.proofs.CheckpointHeaders.{open_all, open_fewer, headers_more, kept_more}
use Rattle.segment_writer.proofs.checkpoint_heading.write_headers.Goals as goal

pub loop-index-init : goal.loop-index-init
loop-index-init g c =
    record {
      opened = open_all c.args.patches.now c.args.lost.now.drives c.args.lists.now c.requires.lists;
      ran = ran_none g.met.S.Shelf.shelf_rest_stays c.args.shelf.now (g.met.S.Shelf.is_shelf c.args.shelf.now);
      lost = loses_none (g.S.Shelf.shelf c.args.shelf.now) c.args.lost.now.drives;
      headers = λ h i p lt. absurd (omega (arith, lt));
      kept = λ h i p facts at holds. holds;
    }

pub write_all_headers-requires : goal.write_all_headers-requires
write_all_headers-requires g c =
    let a = g.S.Shelf.shelf c.args.shelf.now in
    let b = g.S.Shelf.shelf c.loop-index.shelf in
    let ps = c.args.patches.now in
    let index = c.loop-index.index in
    let p = c.at-patch.result in
    let at : slice_get ps index ≡ Some p = slice_get_read ps (length ps) index p refl (omega arith) c.at-patch.ensures in
    let headed = c.requires.headed index p at in
    let inv = c.loop-index.invariant in
    let lt : index < length c.loop-index.lists = omega (arith, inv.opened.count, c.loop-index-test.true) in
    let list = get_or c.loop-index.lists index c.index-lists-index.result in
    record {
      may_head = has_its_segments a p headed;
      headed = may_be_headed b p c.args.generation (headed_later a b p inv.ran.on.continues headed);
      opened = open_under p 0 c.args.generation c.loop-index.lost.drives list.items (inv.opened.each index p list (omega arith) at (slice_get-get_or c.loop-index.lists index c.index-lists-index.result lt));
    }

pub loop-index-preserved : goal.loop-index-preserved
loop-index-preserved g c =
    let a = g.S.Shelf.shelf c.args.shelf.now in
    let b = g.S.Shelf.shelf c.loop-index.shelf in
    let d = g.S.Shelf.shelf c.write_all_headers.new.shelf in
    let ps = c.args.patches.now in
    let index = c.loop-index.index in
    let p = c.at-patch.result in
    let inv = c.loop-index.invariant in
    let x = c.write_all_headers.ensures in
    let was = c.loop-index.lost.drives in
    let now = c.write_all_headers.new.lost.drives in
    let apart = c.requires.apart in
    let at : slice_get ps index ≡ Some p = slice_get_read ps (length ps) index p refl (omega arith) c.at-patch.ensures in
    record {
      opened = open_fewer ps was now c.loop-index.lists index c.write_all_headers.new.opened x.lost.stays inv.opened;
      ran = ran_then g.met.S.Shelf.shelf_rest_stays inv.ran (on_patches ps index p 0 1 at x.ran);
      lost = loses_then a b d c.args.lost.now.drives was now (g.met.S.Shelf.is_shelf c.write_all_headers.new.shelf) inv.ran.on.continues x.ran.on.continues inv.lost x.lost;
      headers = λ h. headers_more b d ps was now index p apart at x.lost (x.ran.on.writes (inv.ran.on.continues.honest h)) c.args.generation (inv.headers h) (x.headers (inv.ran.on.continues.honest h));
      kept = λ h i q facts at_i holds. kept_more b d ps was now index p apart at x.lost (x.ran.on.writes (inv.ran.on.continues.honest h)) (λ facts holds. patch_kept (bytes_of b) (bytes_of d) p was now facts (x.kept (inv.ran.on.continues.honest h)) holds) i q facts at_i (inv.kept h i q facts at_i holds);
    }
