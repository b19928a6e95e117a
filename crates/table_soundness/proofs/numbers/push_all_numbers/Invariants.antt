use Rattle.table_soundness.proofs.Prelude.{◌≡◌, ◌++◌, map, take, facts_of}
use Rattle.table_soundness.proofs.numbers.push_all_numbers.Given as goal

abbrev pub invariant-loop-patch : goal.invariant-loop-patch
invariant-loop-patch g l = l.numbers.items ≡ l.initial.numbers.items ++ map g.F.Fact.number (facts_of (take l.patch-index l.patches))
