use Rattle.segment_io.proofs.Prelude.{◌≢◌, ◌||◌, inl, inr, ◌∙◌, ap, arith, below_more, cases_lt, is_in, set_here, set_other, in_either, past_both}
use Rattle.segment_io.proofs.closing.join.Goals as goal

pub loop-slot-preserved : goal.loop-slot-preserved
loop-slot-preserved c =
    let inv = c.loop-slot.invariant in
    let slot = c.loop-slot.slot in
    let drives = c.loop-slot.lost.drives in
    record {
      passed = below_more _ slot
          (λ k lt. let ne : k ≢ slot = omega (arith, lt) in set_other drives slot k _ ne ∙ inv.passed k lt)
          (set_here drives slot _ (omega arith) ∙ ap (λ b. b || is_in c.args.more.now.drives slot) (inv.ahead slot (omega arith)));
      ahead = λ k le. let ne : k ≢ slot = omega (arith, le) in set_other drives slot k _ ne ∙ inv.ahead k (omega (arith, le));
    }

pub returns : goal.returns
returns c slot = elim (cases_lt slot 24) [
  | inl lt ↦ in_either _ _ _ (c.loop-slot.invariant.passed slot (omega (arith, lt, c.loop-slot-test.false)))
  | inr ge ↦ in_either _ _ _ (past_both c.args.lost.now.drives c.args.more.now.drives slot _ (omega (arith, ge)) (omega (arith, ge)) (c.loop-slot.invariant.ahead slot (omega (arith, ge))))
]
