use Rattle.std.proofs.Common.{◌≡◌, ◌∷◌, ◌++◌, [], ◌∙◌}
use Rattle.pyramid.specs.Prelude.{fresh_of, rising_of, taken_in}
use Rattle.object_table.specs.Objects.{number, objects_of}
use Rattle.object_table.proofs.ObjectLemmas.{inserted_last, objects_push, listed_push, shown_push}
use Rattle.object_table.proofs.table.ObjectTable.add.Goals as goal

entries_are : (c : goal.In-Ok) → c.insert.new.self.entries ≡ c.self.inside.named.entries ++ (c.args.object.name, c.args.object) ∷ []
entries_are c =
    let fresh = rw (← c.self.view_is) at c.requires.name in
    let whole = rw c.in_ok-reserve.ensures.entries at c.in-Ok.ensures.entries in
    whole ∙ inserted_last c.self.inside.named.entries c.args.object c.self.invariant.named fresh

pub insert_run-requires-clause-fresh : goal.insert_run-requires-clause-fresh
insert_run-requires-clause-fresh c =
    let newer = rw (← c.self.view_is) at c.requires.newer in
    fresh_of number c.self.inside.facts.patches c.self.inside.facts.unflushed c.args.object newer

pub insert_run-requires-clause-rising : goal.insert_run-requires-clause-rising
insert_run-requires-clause-rising c =
    let newer = rw (← c.self.view_is) at c.requires.newer in
    rising_of number c.self.inside.facts.patches c.self.inside.facts.unflushed c.args.object newer

pub invariant_of-self-2 : goal.invariant_of-self-2
invariant_of-self-2 c =
    let last = rw (← c.self.view_is) at c.requires.last in
    rw (entries_are c) (listed_push c.self.inside.named.entries c.args.object c.self.invariant last)

pub returns-clause-visible : goal.returns-clause-visible
returns-clause-visible c = rw (entries_are c, ← c.self.view_is) (objects_push c.self.inside.named.entries c.args.object)

pub returns-clause-says : goal.returns-clause-says
returns-clause-says c =
    let newer = rw (← c.self.view_is) at c.requires.newer in
    let last = rw (← c.self.view_is) at c.requires.last in
    rw (entries_are c, objects_push c.self.inside.named.entries c.args.object, ← c.self.view_is, c.in_ok-insert_run.ensures.patches) (λ elided distinct left old.
    shown_push c.self.inside.facts.patches c.self.inside.facts.unflushed c.insert_run.new.self.unflushed c.args.object (c.in_ok-insert_run.ensures.facts) newer distinct elided (objects_of c.self.inside.named.entries) last left old)

pub returns-clause-facts : goal.returns-clause-facts
returns-clause-facts c = rw (← c.self.view_is) (taken_in c.self.inside.facts.patches c.self.inside.facts.unflushed c.insert_run.new.self.unflushed c.args.object c.in_ok-insert_run.ensures.facts)
