use Rattle.table_soundness.proofs.Prelude.{◌≡◌, filter, take, true, stays, is_within}
use Rattle.table_soundness.proofs.shown.visible_of.Given as goal

abbrev pub invariant-loop-fact : goal.invariant-loop-fact
invariant-loop-fact g l = l.out.items ≡ filter (stays g.F.Fact.key g.F.Fact.empty true (is_within l.elided)) (take l.fact-index l.facts)
