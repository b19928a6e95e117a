use Rattle.table_soundness.proofs.Prelude.{◌-◌, refl, arith}
use Rattle.table_soundness.proofs.SpanLemmas.{follows_from_grown, grown_from_near}
use Rattle.table_soundness.proofs.spans.are_grown.Goals as goal

pub returns-then-not-follows : goal.returns-then-not-follows
returns-then-not-follows c = (
  λ no. absurd cc,
  λ h.
      let i = c.loop-i.i in
      let one = c.loop-i.invariant.begun in
      let after = c.follows.ensures.1 (follows_from_grown c.args.spans.now c.requires.sorted c.requires.spans h (i - 1) i _ (omega (arith, one)) c.loop-i-test.true) in
      absurd (cc (after, c.if-not-follows.true)),
)

pub returns : goal.returns
returns c = (
  λ yes. grown_from_near c.args.spans.now c.requires.sorted c.requires.spans (λ j d l. c.loop-i.invariant.near j d (omega (arith, l, c.loop-i-test.false))),
  λ h. refl,
)
