use Rattle.table_planner.proofs.Prelude.{◌⊎◌, ◌↔◌, ◌∙◌, subst, Contains, take_all}
use Rattle.table_planner.proofs.ElidingLemmas.{next_distinct, taken_in}
use Rattle.table_planner.proofs.elisions.insert_each.Goals as goal

pub insert-requires-clause-distinct : goal.insert-requires-clause-distinct
insert-requires-clause-distinct c = next_distinct c.args.table.now.unflushed c.args.facts.now c.loop-fact.table.unflushed c.loop-fact.fact-index _ c.loop-fact-test.true c.loop-fact.invariant.facts c.requires.distinct

pub loop-fact-preserved : goal.loop-fact-preserved
loop-fact-preserved c = record {
  patches = c.insert.ensures.patches ∙ c.loop-fact.invariant.patches;
  facts = taken_in c.args.table.now.unflushed c.args.facts.now c.loop-fact.table.unflushed c.loop-fact.fact-index _ c.loop-fact-test.true c.loop-fact.invariant.facts c.insert.new.self.unflushed c.in_ok-insert.ensures.facts;
}

pub returns-clause-facts : goal.returns-clause-facts
returns-clause-facts c = λ f. subst (λ l. Contains c.loop-fact.table.unflushed f ↔ (Contains c.args.table.now.unflushed f ⊎ Contains l f)) (take_all c.loop-fact.fact-index c.args.facts.now c.loop-fact-test.false) (c.loop-fact.invariant.facts f)
