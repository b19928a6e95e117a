use Rattle.table_plan.proofs.Prelude.{◌≡◌, map, take, repointed, place_in}
use Rattle.table_plan.proofs.placing.repointed_facts.Given as goal

abbrev pub invariant-loop-fact : goal.invariant-loop-fact
invariant-loop-fact l = l.out.items ≡ map (repointed (place_in l.places)) (take l.fact-index l.facts)
