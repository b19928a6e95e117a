use Rattle.std.proofs.Common.{subst, sym}
use Rattle.std.proofs.lemmas.List.{take_more}
use Rattle.loaded_tables.specs.Elided.{AddsElided}
use Rattle.loaded_tables.proofs.ElidedLemmas.{adds_join}
use Rattle.loaded_tables.proofs.elided.elide_facts.Goals as goal

pub loop-fact-preserved : goal.loop-fact-preserved
loop-fact-preserved c =
    subst (λ fs. AddsElided fs c.args.elided.now c.elide_fact.new.elided) (sym (take_more c.args.facts.now c.loop-fact.fact-index _ c.loop-fact-test.true))
    (adds_join _ _ _ _ _ c.loop-fact.invariant c.in_ok-elide_fact.ensures)
