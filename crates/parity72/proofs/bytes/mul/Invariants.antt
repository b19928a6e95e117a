use Rattle.parity72.proofs.Linear.{LeftToAdd}
use Rattle.parity72.proofs.bytes.mul.Given as goal

abbrev pub invariant-loop-k : goal.invariant-loop-k
invariant-loop-k l = LeftToAdd l.fn.b l.fn.x l._k l.sum l.power l.rest
