use Rattle.segment_writer.proofs.Prelude.{Ran, LosesOnly, IsOnPatches, OnPatches}
use Rattle.segment_writer.proofs.CheckpointHeaders.{HeadersUpto, AreKept, AreOpenFrom}
use Rattle.segment_writer.proofs.checkpoint_heading.write_headers.Given as goal

abbrev pub invariant-loop-index : goal.invariant-loop-index
invariant-loop-index g l =
    let a = g.S.Shelf.shelf l.fn.shelf in
    let b = g.S.Shelf.shelf l.shelf in
    record {
      opened : AreOpenFrom l.patches l.lost.drives l.lists l.index;
      ran : Ran g.S.Shelf.shelf g.S.Shelf.shelf_rest (IsOnPatches l.patches) (OnPatches l.patches 0 1) l.fn.shelf l.shelf;
      lost : LosesOnly a b l.fn.lost.drives l.lost.drives;
      headers : a.honest → HeadersUpto b l.patches l.lost.drives l.generation l.index;
      kept : a.honest → AreKept a b l.patches l.fn.lost.drives l.lost.drives;
    }
