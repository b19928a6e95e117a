use Rattle.array_checkpoint.proofs.Prelude.{◌<◌, List, length, ap, arith, at_drop_all, PatchSegment, Patch, patch_segments}
use Rattle.array_checkpoint.proofs.Rooms.{next_patch}
use Rattle.array_checkpoint.proofs.room.segments_of.Goals as goal

pub loop-index-preserved : goal.loop-index-preserved
loop-index-preserved c =
    let ps = c.args.patches.now in
    let lt : c.loop-index.index < length ps = omega (arith, c.loop-index-test.true, c.len-index-end.ensures) in
    let more = next_patch ps c.loop-index.index c.at-patch.result lt in
    let same = ap (λ (p : Patch). length p.segments) c.at-patch.ensures in
    let long = ap (λ (ss : List PatchSegment). length ss) c.as_slice.ensures in
    omega (arith, more, same, long, c.loop-index.invariant)

pub returns : goal.returns
returns c =
    let none = at_drop_all patch_segments c.args.patches.now c.loop-index.index (omega (arith, c.loop-index-test.false, c.len-index-end.ensures)) in
    omega (arith, none, c.loop-index.invariant)
