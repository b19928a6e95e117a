use Rattle.boot_region.proofs.Prelude.{◌<◌, length, arith, ran_then, ran_more}
use Rattle.boot_region.proofs.OnEach.{only_member, range_on_members, outcome_of, outcome_apart, was_member, not_member, each_more, each_past}
use Rattle.boot_region.proofs.members.write_members.Goals as goal
use Rattle.boot_region.proofs.members.write_members.Goals.{then-members-slot, else-members-slot}

pub loop-slot-preserved : goal.loop-slot-preserved
loop-slot-preserved g c =
    let inv = c.loop-slot.invariant in
    let slot = c.loop-slot.slot in
    elim c.if-members-slot.branch [
      | then-members-slot w ↦
          let x = w.write_synced-answer in
          let member = was_member inv.each w.if-members-slot.true in
          let lt : slot < length c.loop-slot.members = omega arith in
          rw (w.shelf-is, w.members-is) (record {
            ran = ran_then g.met.S.Shelf.shelf_rest_stays inv.ran (ran_more (only_member c.args.members.now slot member) (range_on_members c.args.members.now slot c.args.at (length c.args.from.now) member) x.ensures.ran);
            each = each_more inv.each _ w.is_ok.ensures.value lt x.ensures.ran.on.others
                (outcome_of x.result _ _ c.args.at c.args.from.now _ _ member (λ h. x.ensures.written (inv.ran.on.continues.honest h)) (λ h. x.ensures.clean (inv.ran.on.continues.honest h)) x.ensures.counts);
          })
      | else-members-slot w ↦ rw (w.shelf-is, w.members-is) (record { ran = inv.ran; each = each_past inv.each (outcome_apart (not_member inv.each w.if-members-slot.false)) })
    ]
