use Rattle.table_soundness.proofs.Prelude.{◌-◌, ◌≤◌, length}
use Rattle.pyramid.proofs.LoadLemmas.{AreUp}
use Rattle.table_soundness.proofs.distinct.are_strictly_rising.Given as goal

abbrev pub invariant-loop-i : goal.invariant-loop-i
invariant-loop-i l = record {
  begun : 1 ≤ l.i;
  up : AreUp (λ n. n) l.numbers l.i;
}

abbrev pub decreases-loop-i : goal.decreases-loop-i
decreases-loop-i l = length l.numbers - l.i
