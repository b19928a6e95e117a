use Rattle.segment_writer.proofs.Prelude.{◌≢◌, ◌||◌, ◌∙◌, ap, arith, below_more, is_in, set_here, set_other}
use Rattle.segment_writer.proofs.checkpoint_drives.join.Goals as goal

pub loop-slot-preserved : goal.loop-slot-preserved
loop-slot-preserved c =
    let inv = c.loop-slot.invariant in
    let slot = c.loop-slot.slot in
    let drives = c.loop-slot.drives in
    record {
      passed = below_more _ slot
          (λ k lt. let ne : k ≢ slot = omega (arith, lt) in set_other drives slot k _ ne ∙ inv.passed k lt)
          (set_here drives slot _ (omega arith) ∙ ap (λ b. b || is_in c.args.more.now slot) (inv.ahead slot (omega arith)));
      ahead = λ k le. let ne : k ≢ slot = omega (arith, le) in set_other drives slot k _ ne ∙ inv.ahead k (omega (arith, le));
    }
