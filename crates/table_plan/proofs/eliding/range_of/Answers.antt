use Rattle.table_plan.proofs.Prelude.{rules, of_calls, arith, ◌-◌, always_returns_same, Contains-get_or}
use Rattle.table_plan.proofs.RangesOf.{IsLastBegun, has_begun, begun_first, last_begun}
use Rattle.table_plan.proofs.eliding.range_of.Goals as goal

is_last : (c : goal.After-result-1) → IsLastBegun c.args.ranges.now c.args.id c.partition_point-begun.result (0, 0)
is_last c =
    let point = c.partition_point-begun.ensures.partitioned (has_begun c.args.id) (always_returns_same _ _ _ (λ a r f k. search (rules, of_calls))) (begun_first c.args.id c.args.ranges.now c.requires.apart) in
    last_begun c.args.ranges.now c.args.id c.partition_point-begun.result (0, 0) c.requires.apart c.requires.there c.partition_point-begun.ensures.bound point

pub overflow_sub-result : goal.overflow_sub-result
overflow_sub-result c =
    let point = c.partition_point-begun.ensures.partitioned (has_begun c.args.id) (always_returns_same _ _ _ (λ a r f k. search (rules, of_calls))) (begun_first c.args.id c.args.ranges.now c.requires.apart) in
    (last_begun c.args.ranges.now c.args.id c.partition_point-begun.result (0, 0) c.requires.apart c.requires.there c.partition_point-begun.ensures.bound point).some

pub returns-clause-there : goal.returns-clause-there
returns-clause-there c = let w = is_last c in let some = w.some in let within = w.within in Contains-get_or c.args.ranges.now (c.partition_point-begun.result - 1) (0, 0) (omega (arith, some, within))

pub returns-clause-has : goal.returns-clause-has
returns-clause-has c = (is_last c).has
