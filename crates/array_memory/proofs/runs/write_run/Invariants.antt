use Rattle.array_memory.proofs.Prelude.{◌≡◌, take, address_facts, targets_from}
use Rattle.array_memory.proofs.runs.write_run.Given as goal

abbrev pub invariant-loop-i : goal.invariant-loop-i
invariant-loop-i l = take l.i l.run ≡ address_facts l.medium.0 l.first l.number (targets_from l.staged 0 l.i)
