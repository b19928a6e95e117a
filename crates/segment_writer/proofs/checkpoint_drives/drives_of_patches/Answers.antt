use Rattle.segment_writer.proofs.Prelude.{◌≡◌, length, refl, arith, Some, slice_get, slice_get_read}
use Rattle.segment_writer.proofs.CheckpointDrives.{drives_more, only_more}
use Rattle.segment_writer.proofs.checkpoint_drives.drives_of_patches.Goals as goal

pub drives_of-more-requires : goal.drives_of-more-requires
drives_of-more-requires c =
    let ps = c.args.patches.now in
    let index = c.loop-index.index in
    let p = c.at.result in
    let at : slice_get ps index ≡ Some p = slice_get_read ps (length ps) index p refl (omega arith) c.at.ensures in
    record { may_head = c.requires.headed index p at; slots = λ part shard within lt. c.requires.slots index part shard p at within lt }

pub loop-index-preserved : goal.loop-index-preserved
loop-index-preserved c =
    let ps = c.args.patches.now in
    let index = c.loop-index.index in
    let p = c.at.result in
    let at : slice_get ps index ≡ Some p = slice_get_read ps (length ps) index p refl (omega arith) c.at.ensures in
    let x = c.drives_of-more.ensures in
    let inv = c.loop-index.invariant in
    record {
      each = drives_more ps index p c.loop-index.drives c.drives_of-more.result c.join.new.drives at c.join.ensures x inv.each;
      no_other = only_more ps index p c.loop-index.drives c.drives_of-more.result c.join.new.drives at c.join.ensures x inv.no_other;
    }
