use Rattle.table_soundness.proofs.MarkLemmas.{AreMarked}
use Rattle.table_soundness.proofs.distinct.are_marked_once.Given as goal

abbrev pub invariant-loop-number : goal.invariant-loop-number
invariant-loop-number l = AreMarked l.low l.numbers l.number-index l.marks
