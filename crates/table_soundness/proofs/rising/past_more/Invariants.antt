use Rattle.table_soundness.proofs.Prelude.{take, EndAt}
use Rattle.table_soundness.proofs.rising.past_more.Given as goal

abbrev pub invariant-loop-fact : goal.invariant-loop-fact
invariant-loop-fact g l = EndAt g.F.Fact.number l.past (take l.fact-index l.more) l.end
