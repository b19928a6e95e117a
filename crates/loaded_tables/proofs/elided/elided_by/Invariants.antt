use Rattle.std.proofs.Common.{take}
use Rattle.pyramid.specs.Prelude.{facts_of}
use Rattle.loaded_tables.specs.Elided.{AddsElided}
use Rattle.loaded_tables.proofs.elided.elided_by.Given as goal

abbrev pub invariant-loop-patch : goal.invariant-loop-patch
invariant-loop-patch l = AddsElided (facts_of (take l.patch-index l.patches)) l.initial.elided l.elided
