use Rattle.table_planner.proofs.Prelude.{◌≡◌, ◌⊎◌, ◌↔◌, [], take, Contains, ElisionFact}
use Rattle.table_planner.proofs.elisions.insert_each.Given as goal

abbrev pub invariant-loop-fact : goal.invariant-loop-fact
invariant-loop-fact l = record {
  patches : l.table.patches ≡ [];
  facts : (f : ElisionFact) → Contains l.table.unflushed f ↔ (Contains l.initial.table.unflushed f ⊎ Contains (take l.fact-index l.facts) f);
}
