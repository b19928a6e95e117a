use Rattle.pyramid.proofs.Prelude.{take, facts_of, IsSpan}
use Rattle.pyramid.proofs.range.gathered.Given as goal

abbrev pub invariant-loop-patch : goal.invariant-loop-patch
invariant-loop-patch g l = IsSpan g.F.Fact.key g.F.Fact.number l.from l.to (facts_of (take l.patch-index l.patches)) l.found.items
