use Rattle.table_soundness.proofs.Prelude.{length, ◌≡◌, get_or, ◌<◌, ◌≤◌, take, Ascends, facts_of, ◌-◌}
use Rattle.table_soundness.proofs.shown.are_in_a_row.Given as goal

abbrev pub invariant-loop-i : goal.invariant-loop-i
invariant-loop-i g l = record {
  some : 0 < l.i;
  within : l.i ≤ length l.patches;
  before : l.before ≡ get_or l.patches (l.i - 1) l.before;
  ascends : Ascends g.F.Fact.key (facts_of (take l.i l.patches));
}

abbrev pub decreases-loop-i : goal.decreases-loop-i
decreases-loop-i g l = length l.patches - l.i
