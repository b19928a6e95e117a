use Rattle.table_plan.proofs.Prelude.{rules, of_calls, arith, always_returns_same}
use Rattle.table_plan.proofs.WitnessLemmas.{is_below, none_is, parted}
use Rattle.table_plan.proofs.witnesses.search.Goals as goal
use Rattle.table_plan.proofs.witnesses.search.Goals.{else-at-ids-via-then-at-ids+else-ids-at, else-at-ids-via-else-at-ids}

pub returns-else-at-ids-clause-none : goal.returns-else-at-ids-clause-none
returns-else-at-ids-clause-none c =
    let point = c.partition_point-at.ensures.partitioned (is_below c.args.id) (always_returns_same _ _ _ (λ a r f k. search (rules, of_calls))) (parted c.args.id c.args.ids.now c.requires) in
    none_is c.args.id c.args.ids.now c.partition_point-at.result c.requires point (elim c.else-at-ids.branch [
      | else-at-ids-via-then-at-ids+else-ids-at w ↦ λ within same. w.if-ids-at.false same
      | else-at-ids-via-else-at-ids w ↦ λ within same. (let past = w.if-at-ids.false in omega (arith, within, past))
    ])
