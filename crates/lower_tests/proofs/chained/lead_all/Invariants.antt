use Rattle.lower_tests.proofs.Prelude.{AreOnGrid}
use Rattle.lower_tests.proofs.chained.lead_all.Given as goal

abbrev pub invariant-loop-i : goal.invariant-loop-i
invariant-loop-i l = AreOnGrid l.i l.mediums.facts
