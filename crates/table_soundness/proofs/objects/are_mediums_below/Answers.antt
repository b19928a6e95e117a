use Rattle.table_soundness.proofs.Prelude.{iff_false, ◌<◌, refl, take_all, all_of_patch}
use Rattle.table_soundness.proofs.objects.are_mediums_below.Goals as goal

pub returns-then-not-are_below : goal.returns-then-not-are_below
returns-then-not-are_below c = (
  λ no. absurd cc,
  λ h. absurd (iff_false c.are_below.ensures c.if-not-are_below.true (all_of_patch (λ f. f.medium.0 < c.args.next) c.args.patches.now c.loop-patch.patch-index c.facts.result.now c.loop-patch-test.true (rw c.facts.ensures.value c.patch-item.is) h)),
)

pub returns : goal.returns
returns c = (λ yes. rw (take_all c.loop-patch.patch-index c.args.patches.now c.loop-patch-test.false) at c.loop-patch.invariant, λ h. refl)
