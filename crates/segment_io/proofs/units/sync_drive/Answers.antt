use Rattle.segment_io.proofs.Prelude.{refl, arith, drive, ran_sync, loses_one}
use Rattle.segment_io.proofs.units.sync_drive.Goals as goal

pub returns-clause-lost : goal.returns-clause-lost
returns-clause-lost g c =
    loses_one _ _ c.args.lost.now.drives c.args.slot c.sync-answer.result c.is_err.result (omega (arith, (g.met.S.Shelf.is_shelf c.args.shelf.now).drives.1)) c.if-lost-at.false c.is_err.ensures.value c.sync-answer.ensures.others c.sync-answer.ensures.counts

pub returns-clause-ran : goal.returns-clause-ran
returns-clause-ran g c =
    let x = c.sync-answer.ensures in
    ran_sync (drive c.args.slot) refl (g.met.S.Shelf.is_shelf c.args.shelf.now) x.time x.others x.rest x.device
