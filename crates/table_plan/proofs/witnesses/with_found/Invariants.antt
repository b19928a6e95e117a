use Rattle.table_plan.proofs.Prelude.{◌≡◌, ◌++◌, take, filter_map}
use Rattle.table_plan.proofs.witnesses.with_found.Given as goal

abbrev pub invariant-loop-witness : goal.invariant-loop-witness
invariant-loop-witness l = l.out.items ≡ l.witnesses ++ filter_map (λ o. o) (take l.witness-index l.found)
