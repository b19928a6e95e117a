use Rattle.table_soundness.proofs.Prelude.{refl}
use Rattle.table_soundness.proofs.NestLemmas.{all_fit, open_next, refused_next}
use Rattle.table_soundness.proofs.nesting.are_nested.Goals as goal

pub returns-then-not-branch : goal.returns-then-not-branch
returns-then-not-branch c = (
  λ no. absurd cc,
  λ h. absurd (refused_next c.args.spans.now c.requires.sorted c.requires.spans c.loop-span.span-index c.loop-span.ends.items _ c.loop-span-test.true c.loop-span.invariant (c.in_ok-put_span.ensures.refused c.if-not-branch.true) h),
)

pub loop-span-preserved : goal.loop-span-preserved
loop-span-preserved c =
    open_next c.args.spans.now c.requires.sorted c.requires.spans c.loop-span.span-index c.loop-span.ends.items c.put_span.new.ends.items _ c.loop-span-test.true c.loop-span.invariant (c.in_ok-put_span.ensures.put (rw c.if-not-branch.false refl))

pub returns : goal.returns
returns c = (
  λ yes. all_fit c.args.spans.now c.loop-span.span-index c.loop-span.ends.items c.loop-span-test.false c.loop-span.invariant,
  λ h. refl,
)
