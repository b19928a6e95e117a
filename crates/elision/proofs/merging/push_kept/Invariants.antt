use Rattle.elision.proofs.Prelude.{◌≡◌, ◌++◌, filter, take, stays, is_within}
use Rattle.elision.proofs.merging.push_kept.Given as goal

abbrev pub invariant-loop-fact : goal.invariant-loop-fact
invariant-loop-fact g l = l.out.items ≡ l.initial.out.items ++ filter (stays g.F.Fact.key g.F.Fact.empty l.oldest (is_within l.elided)) (take l.fact-index l.facts)
