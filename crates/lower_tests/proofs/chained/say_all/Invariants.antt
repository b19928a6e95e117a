use Rattle.lower_tests.proofs.Prelude.{AreNumbered}
use Rattle.lower_tests.proofs.chained.say_all.Given as goal

abbrev pub invariant-loop-i : goal.invariant-loop-i
invariant-loop-i l = AreNumbered l.i l.addresses.facts
