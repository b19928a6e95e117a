use Rattle.shelf_init.proofs.Prelude.{inl, inr, A, ran_then, ran_more}
use Rattle.shelf_init.proofs.CloseLemmas.{while_closing, while_closing_first, if_all_shut}
use Rattle.shelf_init.proofs.closing.close_all_gates.Goals as goal

pub returns-clause-ran : goal.returns-clause-ran
returns-clause-ran g c = ran_then g.met.S.Shelf.shelf_rest_stays (ran_more (λ d is. is) (λ d i w. inl w) c.close_slot.ensures.ran) (ran_more (λ d is. is) (λ d i w. inr w) c.close_slot-2.ensures.ran)

pub returns-in_err-close_slot-clause-any_moment : goal.returns-in_err-close_slot-clause-any_moment
returns-in_err-close_slot-clause-any_moment g c h read clean =
    while_closing_first (g.S.Shelf.shelf c.args.shelf.now) (g.S.Shelf.shelf c.close_slot.new.shelf) c.args.regions.now.bytes.items clean read (c.close_slot.ensures.ran.on.writes h)

pub returns-clause-shut : goal.returns-clause-shut
returns-clause-shut g c h read =
    let a = g.S.Shelf.shelf c.args.shelf.now in
    let b = g.S.Shelf.shelf c.close_slot.new.shelf in
    let e = g.S.Shelf.shelf c.close_slot-2.new.shelf in
    let on = c.close_slot.ensures.ran.on.continues in
    if_all_shut c.close_slot-2.result a b e c.args.regions.now.bytes.items on read (c.close_slot.ensures.ran.on.writes h) (c.close_slot-2.ensures.ran.on.writes (on.honest h))
    c.close_slot-2.ensures.ran.on.continues (c.in_ok-close_slot.ensures.shut h (read A)) (c.close_slot-2.ensures.shut (on.honest h))

pub returns-clause-any_moment : goal.returns-clause-any_moment
returns-clause-any_moment g c h read clean =
    let on = c.close_slot.ensures.ran.on.continues in
    while_closing (g.S.Shelf.shelf c.args.shelf.now) (g.S.Shelf.shelf c.close_slot.new.shelf) (g.S.Shelf.shelf c.close_slot-2.new.shelf) c.args.regions.now.bytes.items on clean read
    (c.close_slot.ensures.ran.on.writes h) (c.close_slot-2.ensures.ran.on.writes (on.honest h)) (c.in_ok-close_slot.ensures.clean h clean)
