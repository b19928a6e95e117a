use Rattle.table_plan.proofs.Prelude.{◌≡◌, ◌≤◌, ◌++◌, drop, places_from}
use Rattle.table_plan.proofs.placing.places.Given as goal

abbrev pub invariant-loop-flag : goal.invariant-loop-flag
invariant-loop-flag l = record {
  few : l.placed ≤ l.flag-index;
  told : l.out.items ++ places_from l.first l.placed (drop l.flag-index l.flags) ≡ places_from l.first 0 l.flags;
}
