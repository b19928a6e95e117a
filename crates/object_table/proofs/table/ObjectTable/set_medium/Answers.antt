use Rattle.std.proofs.Common.{◌≡◌, sym, ◌∙◌, refl}
use Rattle.pyramid.specs.Prelude.{fresh_of, rising_of, taken_in}
use Rattle.object_table.specs.Objects.{number, objects_of, with_medium}
use Rattle.object_table.proofs.ObjectLemmas.{set_objects, listed_set, shown_moved, moved, found_at, got_at, one_id, with_moved, length_objects}
use Rattle.object_table.proofs.table.ObjectTable.set_medium.Goals as goal

pub insert_run-requires-clause-fresh : goal.insert_run-requires-clause-fresh
insert_run-requires-clause-fresh c =
    let newer = rw (← c.self.view_is) at c.requires.newer in
    fresh_of number c.self.inside.facts.patches c.self.inside.facts.unflushed (moved c.index.result.now c.args.medium c.args.seq) newer

pub insert_run-requires-clause-rising : goal.insert_run-requires-clause-rising
insert_run-requires-clause-rising c =
    let newer = rw (← c.self.view_is) at c.requires.newer in
    rising_of number c.self.inside.facts.patches c.self.inside.facts.unflushed (moved c.index.result.now c.args.medium c.args.seq) newer

pub invariant_of-self-2 : goal.invariant_of-self-2
invariant_of-self-2 c = listed_set c.self.inside.named.entries c.in-Some.at c.index.result.now c.args.medium c.args.seq c.self.invariant c.index.ensures

id_is : (c : goal.After-self-1) → c.index.result.now.object.0 ≡ c.args.id.0
id_is c = got_at (objects_of c.self.inside.named.entries) c.in-Some.at c.index.result.now c.args.id.0 c.index.ensures (rw (length_objects c.self.inside.named.entries) c.in-Some.ensures.some.0) c.in-Some.ensures.some.1

pub returns-clause-visible : goal.returns-clause-visible
returns-clause-visible c = rw (← c.self.view_is, ← id_is c) (set_objects c.self.inside.named.entries c.in-Some.at c.index.result.now c.args.medium c.args.seq c.self.invariant.ascends c.index.ensures)

pub returns-clause-facts : goal.returns-clause-facts
returns-clause-facts c = rw (← c.self.view_is) (λ x have is.
    let same = one_id (objects_of c.self.inside.named.entries) c.index.result.now x c.self.invariant.ascends (found_at (objects_of c.self.inside.named.entries) c.in-Some.at c.index.result.now c.index.ensures) have (id_is c ∙ sym is) in
    let whole : moved c.index.result.now c.args.medium c.args.seq ≡ with_medium c.args.id.0 c.args.medium c.args.seq x = with_moved c.args.id.0 c.index.result.now x c.args.medium c.args.seq same is in
    rw (← whole) (taken_in c.self.inside.facts.patches c.self.inside.facts.unflushed c.insert_run.new.self.unflushed (moved c.index.result.now c.args.medium c.args.seq) c.in_ok-insert_run.ensures.facts))

pub returns-clause-says : goal.returns-clause-says
returns-clause-says c =
    let newer = rw (← c.self.view_is) at c.requires.newer in
    rw (← c.self.view_is, c.in_ok-insert_run.ensures.patches, set_objects c.self.inside.named.entries c.in-Some.at c.index.result.now c.args.medium c.args.seq c.self.invariant.ascends c.index.ensures) (λ elided distinct old.
    shown_moved c.self.inside.facts.patches c.self.inside.facts.unflushed c.insert_run.new.self.unflushed (moved c.index.result.now c.args.medium c.args.seq) c.in_ok-insert_run.ensures.facts newer distinct elided
    (objects_of c.self.inside.named.entries) c.index.result.now c.args.medium c.args.seq refl (found_at (objects_of c.self.inside.named.entries) c.in-Some.at c.index.result.now c.index.ensures) old)
