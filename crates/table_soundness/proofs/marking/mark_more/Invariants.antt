use Rattle.table_soundness.proofs.Prelude.{ℕ, List, ◌++◌, map, take, AreMarked, EndAt}
use Rattle.table_soundness.proofs.marking.mark_more.Given as goal

abbrev pub invariant-loop-fact : goal.invariant-loop-fact
invariant-loop-fact g l = record {
  end : EndAt g.F.Fact.number l.past (take l.fact-index l.more) l.end;
  marked : (numbers : List ℕ) → AreMarked numbers l.initial.marks → AreMarked (numbers ++ map g.F.Fact.number (take l.fact-index l.more)) l.marks;
}
