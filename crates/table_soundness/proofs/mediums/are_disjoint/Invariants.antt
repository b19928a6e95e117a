use Rattle.table_soundness.proofs.Prelude.{◌-◌, ◌≤◌, length}
use Rattle.table_soundness.proofs.MediumLemmas.{AreNear}
use Rattle.table_soundness.proofs.mediums.are_disjoint.Given as goal

abbrev pub invariant-loop-i : goal.invariant-loop-i
invariant-loop-i l = record {
  begun : 1 ≤ l.i;
  near : AreNear l.ranges l.i;
}

abbrev pub decreases-loop-i : goal.decreases-loop-i
decreases-loop-i l = length l.ranges - l.i
