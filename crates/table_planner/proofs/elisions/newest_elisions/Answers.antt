use Rattle.table_planner.proofs.Prelude.{ap, ◌∙◌, ElisionFact, Layers}
use Rattle.table_planner.proofs.ElidingLemmas.{first_distinct, flushed_all, second_distinct}
use Rattle.table_planner.proofs.elisions.newest_elisions.Goals as goal

pub insert_each-requires-clause-distinct : goal.insert_each-requires-clause-distinct
insert_each-requires-clause-distinct c =
    first_distinct c.in_ok-all.all.unflushed c.args.memory.now.memory.tables.elisions.unflushed c.unflushed.result.now c.args.added.now c.in_ok-all.ensures.1 c.unflushed.result.now
    (c.unflushed.ensures ∙ ap (λ (l : Layers ElisionFact). l.unflushed) c.elisions.ensures) c.requires

pub insert_each-requires-2-clause-distinct : goal.insert_each-requires-2-clause-distinct
insert_each-requires-2-clause-distinct c =
    second_distinct c.in_ok-all.all.unflushed c.args.memory.now.memory.tables.elisions.unflushed c.unflushed.result.now c.args.added.now c.in_ok-all.ensures.1 c.insert_each.new.table.unflushed
    (c.unflushed.ensures ∙ ap (λ (l : Layers ElisionFact). l.unflushed) c.elisions.ensures) c.requires c.in_ok-insert_each.ensures.facts

pub returns : goal.returns
returns c =
    flushed_all c.in_ok-all.all.unflushed c.args.memory.now.memory.tables.elisions.unflushed c.unflushed.result.now c.args.added.now c.in_ok-all.ensures.1 c.insert_each.new.table.unflushed
    (c.unflushed.ensures ∙ ap (λ (l : Layers ElisionFact). l.unflushed) c.elisions.ensures) c.requires c.in_ok-insert_each.ensures.facts c.insert_each-2.new.table.unflushed _ c.in_ok-insert_each-2.ensures.facts c.in_ok-patch.ensures
