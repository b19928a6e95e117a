use Rattle.table_soundness.proofs.Prelude.{◌≡◌, ◌++◌, map, take}
use Rattle.table_soundness.proofs.numbers.push_numbers.Given as goal

abbrev pub invariant-loop-fact : goal.invariant-loop-fact
invariant-loop-fact g l = l.numbers.items ≡ l.initial.numbers.items ++ map g.F.Fact.number (take l.fact-index l.facts)
