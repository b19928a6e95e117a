use Rattle.table_plan.proofs.Prelude.{◌≡◌, ◌++◌, drop, flagged_from}
use Rattle.table_plan.proofs.placing.flagged.Given as goal

abbrev pub invariant-loop-i : goal.invariant-loop-i
invariant-loop-i l = l.out.items ++ flagged_from l.i (drop l.i l.flags) ≡ flagged_from 0 l.flags
