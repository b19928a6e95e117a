use Rattle.medium_table.proofs.Prelude.{rules, of_calls, arith, nat_lt, ltb-true, ltb-false, always_returns_same, IsPartitionedBy-ltb, MediumFact, medium_of}
use Rattle.medium_table.proofs.marks.ranges_below.Goals as goal

pub returns-clause-below : goal.returns-clause-below
returns-clause-below c = λ i d l.
    let point = c.partition_point.ensures.partitioned (λ (r : MediumFact). nat_lt r.medium.0 c.args.medium.0) (always_returns_same _ _ _ (λ a r f k. search (rules, of_calls)))
    (IsPartitionedBy-ltb medium_of c.args.ranges.now c.args.medium.0 c.requires) in
    ltb-true _ _ (point.0 i d (omega arith) l)

pub returns-clause-above : goal.returns-clause-above
returns-clause-above c = λ i d le l.
    let point = c.partition_point.ensures.partitioned (λ (r : MediumFact). nat_lt r.medium.0 c.args.medium.0) (always_returns_same _ _ _ (λ a r f k. search (rules, of_calls)))
    (IsPartitionedBy-ltb medium_of c.args.ranges.now c.args.medium.0 c.requires) in
    ltb-false _ _ (point.1 i d le l)
