use Rattle.elision.proofs.Prelude.{length, ◌-◌, ◌+◌, ◌≡◌, ◌++◌, filter, drop, ◌≤◌, merged, stays, is_within}
use Rattle.elision.proofs.merging.merge_facts.Given as goal

abbrev pub invariant-loop-i : goal.invariant-loop-i
invariant-loop-i g l = record {
  i : l.i ≤ length l.older;
  j : l.j ≤ length l.newer;
  so_far : l.out.items ++ filter (stays g.F.Fact.key g.F.Fact.empty l.oldest (is_within l.elided)) (merged g.F.Fact.key (drop l.i l.older) (drop l.j l.newer))
      ≡ filter (stays g.F.Fact.key g.F.Fact.empty l.oldest (is_within l.elided)) (merged g.F.Fact.key l.older l.newer);
}

abbrev pub decreases-loop-i : goal.decreases-loop-i
decreases-loop-i g l = (length l.older - l.i) + (length l.newer - l.j)
