use Rattle.segment_table.proofs.Prelude.{rules, ◌≡◌, filter, filter_same, segment_key, facts_in, ascends_filter}
use Rattle.segment_table.proofs.SegmentLemmas.{is_before, left_back, shown_back}
use Rattle.segment_table.proofs.table.SegmentTable.take_back.Goals as goal

items_are : (c : goal.After-retain) → c.retain.new.self.items ≡ filter (is_before c.args.from.0) c.self.inside.visible.items
items_are c = filter_same _ (is_before c.args.from.0) _ (λ x b f' k. search rules) _ _ c.retain.ensures.filtered

pub invariant_of-self : goal.invariant_of-self
invariant_of-self c = rw (items_are c) (ascends_filter segment_key (is_before c.args.from.0) c.self.inside.visible.items c.self.invariant)

pub returns-clause-visible : goal.returns-clause-visible
returns-clause-visible c = rw (← c.self.view_is) (items_are c)

pub returns-clause-says : goal.returns-clause-says
returns-clause-says c = rw (items_are c, ← c.self.view_is, c.take_back.ensures.patches, c.take_back.ensures.unflushed) (λ elided low own old.
    rw (← left_back c.args.from.0 c.self.inside.facts.patches c.self.inside.facts.unflushed low)
    (shown_back c.args.from.0 (facts_in c.self.inside.facts) elided own c.self.inside.visible.items old))
