use Rattle.array_engine.proofs.Prelude.{[], ap, refl, sym, subst, ◌∙◌, IfErr-weaker, Asked, geometry_of, Engine, Said, IsAnsweredAt}
use Rattle.pur_base.specs.declared.request.Request.TheVariants as request
use Rattle.array_engine.proofs.AtPoint.{keeps_same}
use Rattle.array_engine.proofs.Faults.{flatten_leaves, flush_leaves, merge_leaves}
use Rattle.array_engine.proofs.Flattens.{flatten_answered}
use Rattle.array_engine.proofs.Flushes.{flush_answered}
use Rattle.array_engine.proofs.Meanwhile.{kept_at_once, nothing_done, nothing_moved}
use Rattle.array_engine.proofs.Merges.{merge_answered}
use Rattle.array_engine.proofs.Numbers.{numbers_same}
use Rattle.array_engine.proofs.Points.{like_itself, like_same, listed, stated}
use Rattle.array_engine.proofs.Rooms.{groups_same}
use Rattle.array_engine.proofs.Steps.{step_leaves, step_meanwhile}
use Rattle.array_engine.proofs.WholeReplies.{names_whole}
use Rattle.array_engine.proofs.engine.Engine.answer_accepted.Goals as goal

pub returns-in-Read-clause-kept : goal.returns-in-Read-clause-kept
returns-in-Read-clause-kept g c = rw c.in-Read.is (λ honest held ready. c.read.ensures.kept honest c.args.sectors.now held ready)

pub returns-in-List-clause-answers : goal.returns-in-List-clause-answers
returns-in-List-clause-answers g c = λ told from honest at.
    let shelf = g.S.Shelf.shelf c.args.shelf.now in
    let e = c.args.self.now in
    let s = at.stands c.requires.awake in
    rw c.in-List.is (listed told shelf shelf e e (like_itself e.array) refl (nothing_moved told shelf e.array) from at (nothing_done shelf e.array) c.requires.awake c.args.sectors.now (names_whole s.contents e.array.memory.memory from.array s.reads))

pub returns-in-List-clause-kept : goal.returns-in-List-clause-kept
returns-in-List-clause-kept g c = λ honest held ready.
    kept_at_once (g.S.Shelf.shelf c.args.shelf.now) c.args.self.now.array held ready (g.met.S.Shelf.is_shelf c.args.shelf.now) (Asked c.args.request.now c.args.sectors.now)

pub returns-in-Status-clause-answers : goal.returns-in-Status-clause-answers
returns-in-Status-clause-answers g c = λ told from honest at.
    let shelf = g.S.Shelf.shelf c.args.shelf.now in
    let e = c.args.self.now in
    let s = at.stands c.requires.awake in
    rw c.in-Status.is (stated told shelf shelf e e (like_itself e.array) refl (nothing_moved told shelf e.array) from at (nothing_done shelf e.array) c.requires.awake c.args.sectors.now e.room.groups c.numbers_of.result
    (groups_same s e.room.groups c.requires.room.groups) (c.numbers_of.ensures.numbers s.contents from.array s.reads ∙ numbers_same (geometry_of shelf) e.room.groups c.requires.is_of s) c.numbers_of.ensures.fit)

pub returns-in-Status-clause-kept : goal.returns-in-Status-clause-kept
returns-in-Status-clause-kept g c = λ honest held ready.
    kept_at_once (g.S.Shelf.shelf c.args.shelf.now) c.args.self.now.array held ready (g.met.S.Shelf.is_shelf c.args.shelf.now) (Asked c.args.request.now c.args.sectors.now)

-- ---- steps

pub returns-in-Checkpoint-clause-is_of : goal.returns-in-Checkpoint-clause-is_of
returns-in-Checkpoint-clause-is_of g c =
    let does = c.flush-done.ensures in
    step_leaves _ _ _ _ _ _ [] _ (λ x. (x.0, x.1, ap g.S.Shelf.shelf x.2)) c.requires.is_of c.requires.room c.flush-done.result does.goes does.counted
    (IfErr-weaker c.flush-done.result _ _ (λ why w. flush_leaves _ _ _ _ why w) does.fault) _ c.is_lost-self.ensures

pub returns-in-Checkpoint-clause-answers : goal.returns-in-Checkpoint-clause-answers
returns-in-Checkpoint-clause-answers g c = rw c.in-Checkpoint.is (λ told from honest at.
    let old = g.S.Shelf.shelf c.args.shelf.now in
    let new = g.S.Shelf.shelf c.flush-done.new.shelf in
    let e = c.args.self.now in
    let f : Engine = record e { array = c.flush-done.new.array; room = c.flush-done.new.room; halted = c.is_lost-self.result; writing = c.flush-done.new.writing } in
    let does = c.flush-done.ensures in
    subst (λ (q : Said). IsAnsweredAt told old new e f (Asked request.Checkpoint c.args.sectors.now) q from) (sym c.said_to.ensures)
    (flush_answered told old new e f c.args.sectors.now _ from honest at c.requires.awake (λ x. (x.0, x.1, ap g.S.Shelf.shelf x.2)) c.requires.is_of.of_shelf
    c.flush-done.result does.goes does.made does.fault c.is_lost-self.ensures))

pub returns-in-Checkpoint-clause-kept : goal.returns-in-Checkpoint-clause-kept
returns-in-Checkpoint-clause-kept g c = λ honest held ready.
    let does = c.flush-done.ensures in
    keeps_same _ _ _ honest held ready
    (step_meanwhile _ _ _ _ _ _ [] _ (λ x. (x.0, x.1, ap g.S.Shelf.shelf x.2)) (g.met.S.Shelf.is_shelf c.args.shelf.now) c.flush-done.result does.goes
    (IfErr-weaker c.flush-done.result _ _ (λ why w. flush_leaves _ _ _ _ why w) does.fault)) (Asked c.args.request.now c.args.sectors.now)

pub returns-in-Merge-clause-is_of : goal.returns-in-Merge-clause-is_of
returns-in-Merge-clause-is_of g c =
    let does = c.merge-done.ensures in
    step_leaves _ _ _ _ _ _ [] _ (λ x. (like_same x.0, x.1, ap g.S.Shelf.shelf x.2)) c.requires.is_of c.requires.room c.merge-done.result does.goes does.room
    (IfErr-weaker c.merge-done.result _ _ (λ why w. merge_leaves _ _ _ _ c.in-Merge.table c.in-Merge.index why w) does.fault) _ c.is_lost-self-in-Merge.ensures

pub returns-in-Merge-clause-answers : goal.returns-in-Merge-clause-answers
returns-in-Merge-clause-answers g c = rw c.in-Merge.is (λ told from honest at.
    let old = g.S.Shelf.shelf c.args.shelf.now in
    let new = g.S.Shelf.shelf c.merge-done.new.shelf in
    let e = c.args.self.now in
    let f : Engine = record e { array = c.merge-done.new.array; room = c.merge-done.new.room; halted = c.is_lost-self-in-Merge.result; writing = c.merge-done.new.writing } in
    let does = c.merge-done.ensures in
    subst (λ (q : Said). IsAnsweredAt told old new e f (Asked (request.Merge c.in-Merge.table c.in-Merge.index) c.args.sectors.now) q from) (sym c.said_to-in-Merge.ensures)
    (merge_answered told old new e f c.in-Merge.table c.in-Merge.index c.args.sectors.now _ from honest at c.requires.awake (λ x. (like_same x.0, x.1, ap g.S.Shelf.shelf x.2)) c.requires.is_of.of_shelf
    c.merge-done.result does.goes does.made does.fault c.is_lost-self-in-Merge.ensures))

pub returns-in-Merge-clause-kept : goal.returns-in-Merge-clause-kept
returns-in-Merge-clause-kept g c = λ honest held ready.
    let does = c.merge-done.ensures in
    keeps_same _ _ _ honest held ready
    (step_meanwhile _ _ _ _ _ _ [] _ (λ x. (like_same x.0, x.1, ap g.S.Shelf.shelf x.2)) (g.met.S.Shelf.is_shelf c.args.shelf.now) c.merge-done.result does.goes
    (IfErr-weaker c.merge-done.result _ _ (λ why w. merge_leaves _ _ _ _ c.in-Merge.table c.in-Merge.index why w) does.fault)) (Asked c.args.request.now c.args.sectors.now)

pub returns-in-Flatten-clause-is_of : goal.returns-in-Flatten-clause-is_of
returns-in-Flatten-clause-is_of g c =
    let does = c.flatten-done.ensures in
    step_leaves _ _ _ _ _ _ [] _ (λ x. (x.0, x.1, ap g.S.Shelf.shelf x.2)) c.requires.is_of c.requires.room c.flatten-done.result does.goes does.room
    (IfErr-weaker c.flatten-done.result _ _ (λ why w. flatten_leaves _ _ _ _ c.in-Flatten.name why w) does.fault) _ c.is_lost-self-in-Flatten.ensures

pub returns-in-Flatten-clause-answers : goal.returns-in-Flatten-clause-answers
returns-in-Flatten-clause-answers g c = rw c.in-Flatten.is (λ told from honest at.
    let old = g.S.Shelf.shelf c.args.shelf.now in
    let new = g.S.Shelf.shelf c.flatten-done.new.shelf in
    let e = c.args.self.now in
    let f : Engine = record e { array = c.flatten-done.new.array; room = c.flatten-done.new.room; halted = c.is_lost-self-in-Flatten.result; writing = c.flatten-done.new.writing } in
    let does = c.flatten-done.ensures in
    let s = at.stands c.requires.awake in
    subst (λ (q : Said). IsAnsweredAt told old new e f (Asked (request.Flatten c.in-Flatten.name) c.args.sectors.now) q from) (sym c.said_to_flattening.ensures)
    (flatten_answered told old new e f c.in-Flatten.name c.args.sectors.now _ from honest at c.requires.awake (λ x. (x.0, x.1, ap g.S.Shelf.shelf x.2)) c.requires.is_of.of_shelf
    (rw c.in-Flatten.is at (c.requires.accepted s.contents from.array s.reads)) c.flatten-done.result does.goes does.made does.fault c.is_lost-self-in-Flatten.ensures))

pub returns-in-Flatten-clause-kept : goal.returns-in-Flatten-clause-kept
returns-in-Flatten-clause-kept g c = λ honest held ready.
    let does = c.flatten-done.ensures in
    keeps_same _ _ _ honest held ready
    (step_meanwhile _ _ _ _ _ _ [] _ (λ x. (x.0, x.1, ap g.S.Shelf.shelf x.2)) (g.met.S.Shelf.is_shelf c.args.shelf.now) c.flatten-done.result does.goes
    (IfErr-weaker c.flatten-done.result _ _ (λ why w. flatten_leaves _ _ _ _ c.in-Flatten.name why w) does.fault)) (Asked c.args.request.now c.args.sectors.now)
