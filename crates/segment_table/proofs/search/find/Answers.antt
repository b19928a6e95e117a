use Rattle.segment_table.proofs.Prelude.{rules, of_calls, arith, sym, ◌∙◌, always_returns_same, eqb-false}
use Rattle.segment_table.proofs.SegmentLemmas.{is_below, parted, absent_at, absent_past}
use Rattle.segment_table.proofs.search.find.Goals as goal

pub returns-else-eq-clause-none : goal.returns-else-eq-clause-none
returns-else-eq-clause-none c =
    let point = c.partition_point-at.ensures.partitioned (is_below c.args.id.0) (always_returns_same _ _ _ (λ a r f k. search (rules, of_calls))) (parted c.args.id.0 c.args.segments.now c.requires) in
    absent_at c.args.id.0 c.args.segments.now c.partition_point-at.result c.in-Some.segment.now c.requires c.partition_point-at.ensures.bound point (c.in-Some.ensures.lookup.4 (omega arith)) (eqb-false _ _ (sym c.eq.ensures ∙ c.if-eq.false))

pub returns-in-None-clause-none : goal.returns-in-None-clause-none
returns-in-None-clause-none c =
    let point = c.partition_point-at.ensures.partitioned (is_below c.args.id.0) (always_returns_same _ _ _ (λ a r f k. search (rules, of_calls))) (parted c.args.id.0 c.args.segments.now c.requires) in
    absent_past c.args.id.0 c.args.segments.now c.partition_point-at.result c.partition_point-at.ensures.bound point c.in-None.ensures.lookup.3
