use Rattle.storage_bench.proofs.RunLemmas.{IsRun}
use Rattle.storage_bench.proofs.tables.made_run.Given as goal

abbrev pub invariant-loop-i : goal.invariant-loop-i
invariant-loop-i l = IsRun l.fn.start.medium l.fn.start.sector l.fn.first l.i l.run.items
