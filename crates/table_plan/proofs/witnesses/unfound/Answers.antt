use Rattle.table_plan.proofs.Prelude.{not, sym, ap, ◌∙◌}
use Rattle.table_plan.proofs.WitnessLemmas.{next_found, next_unfound}
use Rattle.table_plan.proofs.witnesses.unfound.Goals as goal
use Rattle.table_plan.proofs.witnesses.unfound.Goals.{then-is_none+in_ok-push, else-is_none}

pub loop-i-preserved : goal.loop-i-preserved
loop-i-preserved c = λ p tells.
    let ids = c.args.ids.now in
    let i = c.loop-i.i in
    let told = sym (tells i c.loop-i-test.true) ∙ c.is_none.ensures in
    elim c.if-is_none.branch [
      | then-is_none+in_ok-push w ↦ rw (w.out-is, w.in_ok-push.ensures.items) (next_unfound p ids i c.loop-i.out.items c.loop-i-test.true (told ∙ ap not w.if-is_none.true) (c.loop-i.invariant p tells))
      | else-is_none w ↦ rw w.out-is (next_found p ids i c.loop-i.out.items c.loop-i-test.true (told ∙ ap not w.if-is_none.false) (c.loop-i.invariant p tells))
    ]
