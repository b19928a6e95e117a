use Rattle.segment_io.proofs.Syncing.{Syncs}
use Rattle.segment_io.proofs.closing.sync_drives.Given as goal

abbrev pub invariant-loop-slot : goal.invariant-loop-slot
invariant-loop-slot g l = record {
  syncs : Syncs (g.S.Shelf.shelf l.initial.shelf) (g.S.Shelf.shelf l.shelf) l.drives l.initial.lost.drives l.lost.drives l.slot;
  rest : g.S.Shelf.shelf_rest l.initial.shelf l.shelf;
}
