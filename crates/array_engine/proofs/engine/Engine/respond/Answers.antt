use Rattle.array_engine.proofs.Prelude.{refl, item_read}
use Rattle.pur_base.specs.Grammar as grammar
use Rattle.pur_base.specs.declared.reply.Refusal.TheVariants as refusals
use Rattle.array_engine.proofs.Meanwhile.{kept_at_once, nothing_done, nothing_moved}
use Rattle.array_engine.proofs.Points.{answered_refused, like_itself}
use Rattle.array_engine.proofs.engine.Engine.respond.Goals as goal

pub returns-in-Request-clause-kept : goal.returns-in-Request-clause-kept
returns-in-Request-clause-kept g c = rw c.in-Request.is (λ honest awake held ready. c.answer.ensures.kept honest awake held ready)

pub returns-in-Syntax-clause-answers : goal.returns-in-Syntax-clause-answers
returns-in-Syntax-clause-answers g c = λ told from honest at.
    let shelf = g.S.Shelf.shelf c.args.shelf.now in
    let e = c.args.self.now in
    rw c.in-Syntax.is (answered_refused told shelf shelf e e (like_itself e.array) refl (nothing_moved told shelf e.array) from at (nothing_done shelf e.array) grammar.Syntax refusals.Syntax (λ stop h. h))

pub returns-in-Syntax-clause-kept : goal.returns-in-Syntax-clause-kept
returns-in-Syntax-clause-kept g c = λ honest awake held ready.
    kept_at_once (g.S.Shelf.shelf c.args.shelf.now) c.args.self.now.array held ready (g.met.S.Shelf.is_shelf c.args.shelf.now) (item_read c.args.item.now c.args.sectors.now)

pub returns-in-Cut-clause-answers : goal.returns-in-Cut-clause-answers
returns-in-Cut-clause-answers g c = λ told from honest at.
    let shelf = g.S.Shelf.shelf c.args.shelf.now in
    let e = c.args.self.now in
    rw c.in-Cut.is (answered_refused told shelf shelf e e (like_itself e.array) refl (nothing_moved told shelf e.array) from at (nothing_done shelf e.array) grammar.Cut refusals.Cut (λ stop h. h))

pub returns-in-Cut-clause-kept : goal.returns-in-Cut-clause-kept
returns-in-Cut-clause-kept g c = λ honest awake held ready.
    kept_at_once (g.S.Shelf.shelf c.args.shelf.now) c.args.self.now.array held ready (g.met.S.Shelf.is_shelf c.args.shelf.now) (item_read c.args.item.now c.args.sectors.now)
