use Rattle.table_soundness.proofs.Prelude.{length, ◌-◌, ◌+◌, ◌≡◌, ◌++◌, drop, ◌≤◌, woven}
use Rattle.table_soundness.proofs.shown.woven.Given as goal

abbrev pub invariant-loop-i : goal.invariant-loop-i
invariant-loop-i g l = record {
  i : l.i ≤ length l.older;
  j : l.j ≤ length l.newer;
  so_far : l.out.items ++ woven g.F.Fact.key g.F.Fact.number (drop l.i l.older) (drop l.j l.newer) ≡ woven g.F.Fact.key g.F.Fact.number l.older l.newer;
}

abbrev pub decreases-loop-i : goal.decreases-loop-i
decreases-loop-i g l = (length l.older - l.i) + (length l.newer - l.j)
