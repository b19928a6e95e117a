use Rattle.table_soundness.proofs.Prelude.{refl, arith}
use Rattle.table_soundness.proofs.MediumLemmas.{disjoint_from_near}
use Rattle.table_soundness.proofs.mediums.are_disjoint.Goals as goal

pub returns : goal.returns
returns c = (
  λ yes. disjoint_from_near c.args.ranges.now c.requires.ascends c.requires.ranges (λ j d l. c.loop-i.invariant.near j d (omega (arith, l, c.loop-i-test.false))),
  λ h. refl,
)
