use Rattle.segment_table.proofs.Prelude.{rules, ◌≡◌, ◌∷◌, ◌++◌, [], fresh_of, rising_of, taken_in, number}
use Rattle.segment_table.proofs.SegmentLemmas.{ascends_last, shown_push}
use Rattle.segment_table.proofs.table.SegmentTable.add.Goals as goal

items_are : (c : goal.In-Ok) → c.push.new.self.items ≡ c.self.inside.visible.items ++ c.args.segment ∷ []
items_are c = search rules

pub insert_run-requires-clause-fresh : goal.insert_run-requires-clause-fresh
insert_run-requires-clause-fresh c =
    let newer = rw (← c.self.view_is) at c.requires.newer in
    fresh_of number c.self.inside.facts.patches c.self.inside.facts.unflushed c.args.segment newer

pub insert_run-requires-clause-rising : goal.insert_run-requires-clause-rising
insert_run-requires-clause-rising c =
    let newer = rw (← c.self.view_is) at c.requires.newer in
    rising_of number c.self.inside.facts.patches c.self.inside.facts.unflushed c.args.segment newer

pub invariant_of-self-2 : goal.invariant_of-self-2
invariant_of-self-2 c =
    let last = rw (← c.self.view_is) at c.requires.last in
    rw (items_are c) (ascends_last c.self.inside.visible.items c.args.segment last c.self.invariant)

pub returns-clause-facts : goal.returns-clause-facts
returns-clause-facts c = rw (← c.self.view_is) (taken_in c.self.inside.facts.patches c.self.inside.facts.unflushed c.insert_run.new.self.unflushed c.args.segment c.in_ok-insert_run.ensures.facts)

pub returns-clause-says : goal.returns-clause-says
returns-clause-says c =
    let newer = rw (← c.self.view_is) at c.requires.newer in
    let last = rw (← c.self.view_is) at c.requires.last in
    rw (items_are c, ← c.self.view_is, c.in_ok-insert_run.ensures.patches) (λ elided distinct left old.
    shown_push c.self.inside.facts.patches c.self.inside.facts.unflushed c.insert_run.new.self.unflushed c.args.segment c.in_ok-insert_run.ensures.facts newer distinct elided c.self.inside.visible.items last left old)
