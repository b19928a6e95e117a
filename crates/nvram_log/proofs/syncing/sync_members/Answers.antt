use Rattle.nvram_log.proofs.Prelude.{◌<◌, length, arith, ◌∙◌, ran_then, ran_sync, nvram}
use Rattle.nvram_log.proofs.OnEach.{always, was_member, each_more, each_past}
use Rattle.nvram_log.proofs.Synced.{one_clean, clean_now, same_bytes, all_clean}
use Rattle.nvram_log.proofs.syncing.sync_members.Goals as goal
use Rattle.nvram_log.proofs.syncing.sync_members.Goals.{then-members-device, else-members-device}

pub loop-device-preserved : goal.loop-device-preserved
loop-device-preserved g c =
    let inv = c.loop-device.invariant in
    let slot = c.loop-device.device in
    let b = g.S.Shelf.shelf c.loop-device.shelf in
    elim c.if-members-device.branch [
      | then-members-device w ↦
          let x = w.sync-answer in
          let m = g.S.Shelf.shelf x.new.self in
          let lt : slot < length c.loop-device.members = omega arith in
          rw (w.shelf-is, w.members-is) (record {
            ran = ran_then g.met.S.Shelf.shelf_rest_stays inv.ran (ran_sync (nvram slot) (was_member inv.each w.if-members-device.true) (g.met.S.Shelf.is_shelf c.loop-device.shelf) x.ensures.time x.ensures.others x.ensures.rest x.ensures.device);
            bytes = λ h d. same_bytes b m (nvram slot) x.ensures.others (x.ensures.device (inv.ran.on.continues.honest h)).bytes d ∙ inv.bytes h d;
            still_clean = λ h d clean. all_clean b m (nvram slot) x.ensures.others (one_clean x.result _ _ (x.ensures.device (inv.ran.on.continues.honest h))) d (inv.still_clean h d clean);
            each = each_more inv.each x.result _ w.is_ok.ensures.value lt w.if-members-device.true x.ensures.others (λ h. always x.result _ tt) (λ h. clean_now x.result _ _ (x.ensures.device (inv.ran.on.continues.honest h))) x.ensures.counts;
          })
      | else-members-device w ↦
          rw (w.shelf-is, w.members-is) (record { ran = inv.ran; bytes = inv.bytes; still_clean = inv.still_clean; each = each_past inv.each w.if-members-device.false })
    ]
