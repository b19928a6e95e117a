use Rattle.segment_writer.proofs.Prelude.{Ran, LosesOnly, IsOnPatches, OnPatches}
use Rattle.segment_writer.proofs.CheckpointAppended.{StandUpto, AreOpenUpto}
use Rattle.segment_writer.proofs.checkpoint_appending.append_patches.Given as goal

abbrev pub invariant-loop-index : goal.invariant-loop-index
invariant-loop-index g l =
    let a = g.S.Shelf.shelf l.fn.shelf in
    let b = g.S.Shelf.shelf l.shelf in
    record {
      opened : AreOpenUpto l.patches l.lost.drives l.lists l.index;
      ran : Ran g.S.Shelf.shelf g.S.Shelf.shelf_rest (IsOnPatches l.patches) (OnPatches l.patches 1 15) l.fn.shelf l.shelf;
      lost : LosesOnly a b l.fn.lost.drives l.lost.drives;
      stand : a.honest → StandUpto b l.plan l.patches l.lost.drives l.index;
    }
