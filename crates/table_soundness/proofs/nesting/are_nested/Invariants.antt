use Rattle.table_soundness.proofs.NestLemmas.{IsOpen}
use Rattle.table_soundness.proofs.nesting.are_nested.Given as goal

abbrev pub invariant-loop-span : goal.invariant-loop-span
invariant-loop-span l = IsOpen l.spans l.span-index l.ends.items
