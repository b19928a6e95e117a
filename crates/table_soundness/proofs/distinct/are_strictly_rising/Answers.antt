use Rattle.table_soundness.proofs.Prelude.{arith, refl}
use Rattle.pyramid.proofs.LoadLemmas.{from_neighbours}
use Rattle.table_soundness.proofs.distinct.are_strictly_rising.Goals as goal

pub returns : goal.returns
returns c = (
  λ yes. from_neighbours (λ n. n) c.args.numbers.now (λ j d l. c.loop-i.invariant.up j d (omega (arith, l, c.loop-i-test.false))),
  λ h. refl,
)
