use Rattle.table_soundness.proofs.Prelude.{length, ◌≡◌, ◌++◌, drop, take, ◌≤◌, woven, ◌-◌}
use Rattle.table_soundness.proofs.shown.are_covered.Given as goal

abbrev pub invariant-loop-i : goal.invariant-loop-i
invariant-loop-i g l = record {
  i : l.i ≤ length l.older;
  j : l.j ≤ length l.newer;
  so_far : take l.j l.newer ++ woven g.F.Fact.key g.F.Fact.number (drop l.i l.older) (drop l.j l.newer) ≡ woven g.F.Fact.key g.F.Fact.number l.older l.newer;
}

abbrev pub decreases-loop-i : goal.decreases-loop-i
decreases-loop-i g l = length l.newer - l.j
