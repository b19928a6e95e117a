use Rattle.table_soundness.proofs.Prelude.{ℕ, List, ◌++◌, map, take, facts_of, AreMarked, RiseTo}
use Rattle.table_soundness.proofs.marking.mark_all.Given as goal

abbrev pub invariant-loop-patch : goal.invariant-loop-patch
invariant-loop-patch g l = record {
  rise : RiseTo g.F.Fact.number (take l.patch-index l.patches) l.past;
  marked : (numbers : List ℕ) → AreMarked numbers l.initial.marks → AreMarked (numbers ++ map g.F.Fact.number (facts_of (take l.patch-index l.patches))) l.marks;
}
