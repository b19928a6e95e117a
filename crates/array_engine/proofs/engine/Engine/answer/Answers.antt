use Rattle.array_engine.proofs.Prelude.{refl, sym, Asked}
use Rattle.array_engine.proofs.Meanwhile.{kept_at_once, nothing_done, nothing_moved}
use Rattle.array_engine.proofs.Points.{like_itself, refused_by_cause, refused_halted}
use Rattle.array_engine.proofs.engine.Engine.answer.Goals as goal

pub returns-then-self-clause-answers : goal.returns-then-self-clause-answers
returns-then-self-clause-answers g c = λ told from honest at.
    let shelf = g.S.Shelf.shelf c.args.shelf.now in
    let e = c.args.self.now in
    refused_halted told shelf shelf e e (like_itself e.array) refl (nothing_moved told shelf e.array) from at (nothing_done shelf e.array) c.if-self.true c.args.request.now c.args.sectors.now

pub returns-in-Some-clause-answers : goal.returns-in-Some-clause-answers
returns-in-Some-clause-answers g c = λ told from honest at.
    let shelf = g.S.Shelf.shelf c.args.shelf.now in
    let e = c.args.self.now in
    let s = at.stands c.if-self.false in
    refused_by_cause told shelf shelf e e (like_itself e.array) refl (nothing_moved told shelf e.array) from at c.if-self.false c.args.request.now c.args.sectors.now (nothing_done shelf e.array) c.in-Some.why (sym (c.in-Some.ensures.array s.contents from.array s.reads))

pub returns-in-Some-clause-kept : goal.returns-in-Some-clause-kept
returns-in-Some-clause-kept g c = λ honest awake held ready.
    kept_at_once (g.S.Shelf.shelf c.args.shelf.now) c.args.self.now.array held ready (g.met.S.Shelf.is_shelf c.args.shelf.now) (Asked c.args.request.now c.args.sectors.now)

pub returns-in-None-clause-kept : goal.returns-in-None-clause-kept
returns-in-None-clause-kept g c = λ honest awake held ready. c.answer_accepted.ensures.kept honest held ready
