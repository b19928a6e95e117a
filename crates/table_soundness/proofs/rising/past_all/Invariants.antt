use Rattle.table_soundness.proofs.Prelude.{take, RiseTo}
use Rattle.table_soundness.proofs.rising.past_all.Given as goal

abbrev pub invariant-loop-patch : goal.invariant-loop-patch
invariant-loop-patch g l = RiseTo g.F.Fact.number (take l.patch-index l.patches) l.past
