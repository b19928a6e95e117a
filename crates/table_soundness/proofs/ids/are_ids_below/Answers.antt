use Rattle.table_soundness.proofs.Prelude.{iff_false, ◌<◌, refl, take_all, id_of, all_of_patch}
use Rattle.table_soundness.proofs.ids.are_ids_below.Goals as goal

pub returns-then-not-below_by_last : goal.returns-then-not-below_by_last
returns-then-not-below_by_last g c = (
  λ no. absurd cc,
  λ h. absurd (iff_false c.below_by_last.ensures c.if-not-below_by_last.true (all_of_patch (λ f. id_of (g.F.Fact.key f) < c.args.next) c.args.patches.now c.loop-patch.patch-index c.facts.result.now c.loop-patch-test.true (rw c.facts.ensures.value c.patch-item.is) h)),
)

pub returns : goal.returns
returns g c = (λ yes. rw (take_all c.loop-patch.patch-index c.args.patches.now c.loop-patch-test.false) at c.loop-patch.invariant, λ h. refl)
