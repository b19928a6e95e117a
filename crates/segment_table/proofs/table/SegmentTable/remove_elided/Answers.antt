use Rattle.segment_table.proofs.Prelude.{rules, ◌≡◌, filter, not, filter_same, segment_key, is_within, SegmentFact, facts_in, ascends_filter}
use Rattle.segment_table.proofs.SegmentLemmas.{shown_less}
use Rattle.segment_table.proofs.table.SegmentTable.remove_elided.Goals as goal

items_are : (c : goal.After-retain) → c.retain.new.self.items ≡ filter (λ (d : SegmentFact). not (is_within c.args.elided.now d.segment.0)) c.self.inside.visible.items
items_are c = filter_same _ (λ (d : SegmentFact). not (is_within c.args.elided.now d.segment.0)) _ (λ x b f' k. search rules) _ _ c.retain.ensures.filtered

pub invariant_of-self : goal.invariant_of-self
invariant_of-self c = rw (items_are c) (ascends_filter segment_key (λ (d : SegmentFact). not (is_within c.args.elided.now d.segment.0)) c.self.inside.visible.items c.self.invariant)

pub returns-clause-visible : goal.returns-clause-visible
returns-clause-visible c = rw (← c.self.view_is) (items_are c)

pub returns-clause-says : goal.returns-clause-says
returns-clause-says c = rw (items_are c, ← c.self.view_is) (λ before more old. shown_less (facts_in c.self.inside.facts) before (is_within c.args.elided.now) c.self.inside.visible.items more old)
