use Rattle.std.proofs.Common.{rules, of_calls, sym, ◌∙◌}
use Rattle.std.proofs.lemmas.Fn.{always_returns_same}
use Rattle.std.proofs.lemmas.Bool.{eqb-false}
use Rattle.object_table.proofs.ObjectLemmas.{is_below, parted, absent_at, absent_past}
use Rattle.object_table.proofs.named.place_of.Goals as goal

pub returns-else-eq-clause-none : goal.returns-else-eq-clause-none
returns-else-eq-clause-none c =
    let point = c.partition_point-at.ensures.partitioned (is_below c.args.id.0) (always_returns_same _ _ _ (λ a r f k. search (rules, of_calls))) (parted c.args.id.0 c.args.named.now.entries c.requires) in
    absent_at c.args.id.0 c.args.named.now.entries c.partition_point-at.result (c.in-Some.field-0-0.now, c.in-Some.object.now) c.requires c.partition_point-at.ensures.bound point c.in-Some.ensures.entry (eqb-false _ _ (sym c.eq.ensures ∙ c.if-eq.false))

pub returns-in-None-clause-none : goal.returns-in-None-clause-none
returns-in-None-clause-none c =
    let point = c.partition_point-at.ensures.partitioned (is_below c.args.id.0) (always_returns_same _ _ _ (λ a r f k. search (rules, of_calls))) (parted c.args.id.0 c.args.named.now.entries c.requires) in
    absent_past c.args.id.0 c.args.named.now.entries c.partition_point-at.result c.partition_point-at.ensures.bound point c.in-None.ensures.entry
