use Rattle.nvram_log.proofs.Prelude.{refl, ◌∙◌, ◌<◌, length, sym, subst, arith, slice_get_read, slice_get_within, nvram, ran_then, ran_more, ran_sync, IsFlagged, SlotsAre}
use Rattle.nvram_log.proofs.OnEach.{always}
use Rattle.nvram_log.proofs.Mended.{slot_in, slot_more}
use Rattle.nvram_log.proofs.mending.write_some_slots.Goals as goal

pub returns-in_err-write_record-clause-ran : goal.returns-in_err-write_record-clause-ran
returns-in_err-write_record-clause-ran g c =
    let inv = c.loop-i.invariant in
    let flagged : IsFlagged c.args.flags.now c.loop-i.i = c.if-not-flags-i.false in
    ran_then g.met.S.Shelf.shelf_rest_stays inv.ran (ran_more (λ d is. is) (slot_in (nvram c.args.device.0) c.args.flags.now c.loop-i.i (omega arith) flagged) c.write_record.ensures.ran)

pub loop-i-preserved : goal.loop-i-preserved
loop-i-preserved g c =
    let inv = c.loop-i.invariant in
    let device = nvram c.args.device.0 in
    let x = c.write_record.ensures in
    let flagged : IsFlagged c.args.flags.now c.loop-i.i = c.if-not-flags-i.false in
    let at = slice_get_read c.args.records.now _ c.loop-i.i c.index-records-i.result refl (omega arith) c.index-records-i.is in
    record {
      ran = ran_then g.met.S.Shelf.shelf_rest_stays inv.ran (ran_more (λ d is. is) (slot_in device c.args.flags.now c.loop-i.i (omega arith) flagged) x.ran);
      faults = c.in_ok-write_record.ensures.counts.faults ∙ inv.faults;
      write_faults = c.in_ok-write_record.ensures.counts.write_faults ∙ inv.write_faults;
      stood = λ h. slot_more _ _ device c.args.flags.now c.args.records.now c.loop-i.i c.index-records-i.result ((g.met.S.Shelf.is_shelf c.loop-i.shelf).sizes (inv.ran.on.continues.honest h) device c.requires.device) (omega arith) at ((x.ran.on.writes (inv.ran.on.continues.honest h)).device device) (c.in_ok-write_record.ensures.written (inv.ran.on.continues.honest h)) (inv.stood h);
    }

pub returns-clause-ran : goal.returns-clause-ran
returns-clause-ran g c =
    ran_then g.met.S.Shelf.shelf_rest_stays c.loop-i.invariant.ran (ran_sync (nvram c.args.device.0) refl (g.met.S.Shelf.is_shelf c.loop-i.shelf) c.sync.ensures.time c.sync.ensures.others c.sync.ensures.rest c.sync.ensures.device)

pub returns-clause-written : goal.returns-clause-written
returns-clause-written g c h =
    let inv = c.loop-i.invariant in
    let synced = c.sync.ensures.device (inv.ran.on.continues.honest h) in
    let stood : SlotsAre c.args.flags.now c.args.records.now ((g.S.Shelf.shelf c.loop-i.shelf).disk (nvram c.args.device.0)).bytes = λ i l lt is at. let within : i < length c.args.records.now = slice_get_within c.args.records.now i l at in inv.stood h i l (omega (arith, lt, within, c.loop-i-test.false)) is at in
    always c.sync.result _ (subst (SlotsAre c.args.flags.now c.args.records.now) (sym synced.bytes) stood)
