use Rattle.array_memory.proofs.Prelude.{◌≤◌, take, AreOwedIn}
use Rattle.array_memory.proofs.owed.put_owed.Given as goal

abbrev pub invariant-loop-i : goal.invariant-loop-i
invariant-loop-i l = record {
  few : l.len ≤ l.i;
  owed : AreOwedIn l.fn.medium.0 l.fn.first l.fn.number l.said l.read l.i (take l.len l.given);
}
