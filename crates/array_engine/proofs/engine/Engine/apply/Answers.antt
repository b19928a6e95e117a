use Rattle.array_engine.proofs.Prelude.{ap, sym, subst, IfErr-weaker, Engine, Said, IsAnsweredAt, Asked, array_of}
use Rattle.array_engine.proofs.Commands.{command_answered, command_kept}
use Rattle.array_engine.proofs.Faults.{append_leaves}
use Rattle.array_engine.proofs.Steps.{step_leaves}
use Rattle.array_engine.proofs.engine.Engine.apply.Goals as goal

pub returns-clause-is_of : goal.returns-clause-is_of
returns-clause-is_of g c =
    let does = c.append-done.ensures in
    step_leaves _ _ _ _ _ _ _ _ (λ x. (x.0, x.1, ap g.S.Shelf.shelf x.2)) c.requires.is_of c.requires.room c.append-done.result does.goes does.counted
    (IfErr-weaker c.append-done.result _ _ (λ why w. append_leaves _ _ _ _ _ why w) does.fault) _ c.is_lost-self.ensures

pub returns-clause-answers : goal.returns-clause-answers
returns-clause-answers g c = λ told from honest at.
    let old = g.S.Shelf.shelf c.args.shelf.now in
    let new = g.S.Shelf.shelf c.append-done.new.shelf in
    let e = c.args.self.now in
    let f : Engine = record e { array = c.append-done.new.array; room = c.append-done.new.room; halted = c.is_lost-self.result; writing = c.append-done.new.writing } in
    let r = c.args.request.now in
    let does = c.append-done.ensures in
    let s = at.stands c.requires.awake in
    subst (λ (q : Said). IsAnsweredAt told old new e f (Asked r c.args.sectors.now) q from) (sym c.said_to.ensures)
    (command_answered told old new e f r c.args.sectors.now _ from honest at c.requires.awake c.requires.logged (c.requires.accepted s.contents from.array s.reads) (λ x. (x.0, x.1, ap g.S.Shelf.shelf x.2))
    c.requires.is_of.of_shelf c.append-done.result does.goes does.done does.fault c.is_lost-self.ensures)

pub returns-clause-kept : goal.returns-clause-kept
returns-clause-kept g c = λ honest held ready.
    let does = c.append-done.ensures in
    command_kept (g.S.Shelf.shelf c.args.shelf.now) (g.S.Shelf.shelf c.append-done.new.shelf) c.args.self.now.array c.append-done.new.array c.args.request.now c.args.sectors.now _ (g.met.S.Shelf.is_shelf c.args.shelf.now) honest held ready
    c.requires.logged (c.requires.accepted ready.contents (array_of held) ready.reads) (λ x. ap g.S.Shelf.shelf x.2) c.append-done.result does.goes does.done does.fault
