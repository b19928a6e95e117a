use Rattle.table_plan.proofs.Prelude.{◌⊎◌, ◌↔◌, ℕ, ◌+◌, List, ◌++◌, drop, take, Contains, Table, ElisionFact, AreElisionsOf}
use Rattle.table_plan.proofs.RangesOf.{IsIn, OthersStay}
use Rattle.table_plan.proofs.eliding.elide_all.Given as goal

abbrev pub invariant-loop-i : goal.invariant-loop-i
invariant-loop-i l = record {
  -- what follows makes the whole with these
  facts : (rest : List ElisionFact) → AreElisionsOf (IsIn l.elided) (l.number + l.i) (drop l.i l.items) rest → AreElisionsOf (IsIn l.initial.elided) l.number l.items (l.facts.items ++ rest);
  ids : (t : Table) (j : ℕ) → IsIn l.elided t j ↔ (IsIn l.initial.elided t j ⊎ Contains (take l.i l.items) (t, j));
  others : OthersStay l.items l.initial.elided l.elided;
}
