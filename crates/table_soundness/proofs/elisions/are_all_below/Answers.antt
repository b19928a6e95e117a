use Rattle.table_soundness.proofs.Prelude.{iff_false, refl, take_all, IsBelow, all_of_patch}
use Rattle.table_soundness.proofs.elisions.are_all_below.Goals as goal

pub returns-then-not-are_below : goal.returns-then-not-are_below
returns-then-not-are_below c = (
  λ no. absurd cc,
  λ h. absurd (iff_false c.are_below.ensures c.if-not-are_below.true (all_of_patch (IsBelow c.args.next.now) c.args.patches.now c.loop-patch.patch-index c.facts.result.now c.loop-patch-test.true (rw c.facts.ensures.value c.patch-item.is) h)),
)

pub returns : goal.returns
returns c = (λ yes. rw (take_all c.loop-patch.patch-index c.args.patches.now c.loop-patch-test.false) at c.loop-patch.invariant, λ h. refl)
