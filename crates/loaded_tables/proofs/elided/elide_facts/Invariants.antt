use Rattle.std.proofs.Common.{take}
use Rattle.loaded_tables.specs.Elided.{AddsElided}
use Rattle.loaded_tables.proofs.elided.elide_facts.Given as goal

abbrev pub invariant-loop-fact : goal.invariant-loop-fact
invariant-loop-fact l = AddsElided (take l.fact-index l.facts) l.initial.elided l.elided
