use Rattle.segment_io.proofs.Prelude.{arith}
use Rattle.segment_io.proofs.Syncing.{sync_starts, passed_over, one_synced, all_synced}
use Rattle.segment_io.proofs.closing.sync_drives.Goals as goal

pub loop-slot-init : goal.loop-slot-init
loop-slot-init g c = record {
  syncs = sync_starts (g.S.Shelf.shelf c.args.shelf.now) c.args.drives.now c.args.lost.now.drives (g.met.S.Shelf.is_shelf c.args.shelf.now);
  rest = g.met.S.Shelf.shelf_rest_stays.reflexive c.args.shelf.now;
}

pub loop-slot-preserved-then-not-drives-slot : goal.loop-slot-preserved-then-not-drives-slot
loop-slot-preserved-then-not-drives-slot g c = record {
  syncs = passed_over _ _ c.args.drives.now c.args.lost.now.drives c.loop-slot.lost.drives c.loop-slot.slot c.if-not-drives-slot.true c.loop-slot.invariant.syncs;
  rest = c.loop-slot.invariant.rest;
}

pub loop-slot-preserved : goal.loop-slot-preserved
loop-slot-preserved g c =
    let inv = c.loop-slot.invariant in
    let x = c.sync_drive.ensures in
    record {
      syncs = one_synced _ (g.S.Shelf.shelf c.loop-slot.shelf) _ c.args.drives.now c.args.lost.now.drives c.loop-slot.lost.drives c.sync_drive.new.lost.drives c.loop-slot.slot
          c.if-not-drives-slot.false (g.met.S.Shelf.is_shelf c.sync_drive.new.shelf) inv.syncs x.ran.on.continues x.lost x.clean x.bytes x.ran.on.writes x.ran.on.others;
      rest = g.met.S.Shelf.shelf_rest_stays.transitive _ _ _ inv.rest x.ran.rest;
    }

pub sync_drive-requires : goal.sync_drive-requires
sync_drive-requires g c = omega (arith, c.requires c.loop-slot.slot c.if-not-drives-slot.false, c.loop-slot.invariant.syncs.continues.drives)

pub returns-clause-clean : goal.returns-clause-clean
returns-clause-clean g c h slot is none =
    all_synced _ _ c.args.drives.now c.args.lost.now.drives c.loop-slot.lost.drives c.loop-slot.slot (omega (arith, c.loop-slot-test.false)) c.loop-slot.invariant.syncs h slot is none
