use Rattle.shelf_init.proofs.Prelude.{err_from_is_err_and, then_run, ran_then, ran_more}
use Rattle.shelf_init.proofs.CallLemmas.{failed_later, moments_of, spells_then}
use Rattle.shelf_init.proofs.InitLemmas.{while_reading, still_blank, still_clean}
use Rattle.shelf_init.proofs.making.make_on.Goals as goal

pub returns-in_err-make-clause-ran : goal.returns-in_err-make-clause-ran
returns-in_err-make-clause-ran g c = ran_then g.met.S.Shelf.shelf_rest_stays (ran_more (λ d is. tt) (λ d i none. absurd none) c.look.ensures.ran) c.make.ensures.ran

pub returns-clause-ran : goal.returns-clause-ran
returns-clause-ran g c = ran_then g.met.S.Shelf.shelf_rest_stays (ran_more (λ d is. tt) (λ d i none. absurd none) c.look.ensures.ran) c.make.ensures.ran

pub returns-in_err-look-clause-any_moment : goal.returns-in_err-look-clause-any_moment
returns-in_err-look-clause-any_moment g c h clean blank spells = while_reading (g.S.Shelf.shelf c.args.shelf.now) (g.S.Shelf.shelf c.look.new.shelf) clean blank (c.look.ensures.ran.on.writes h)

pub returns-in_err-make-clause-device : goal.returns-in_err-make-clause-device
returns-in_err-make-clause-device g c =
    let r = err_from_is_err_and c.from_residual-in_err-make.result c.from_residual-in_err-make.ensures.1 in
    rw (r.1, r.2) (failed_later (g.S.Shelf.shelf c.args.shelf.now) (g.S.Shelf.shelf c.look.new.shelf) (g.S.Shelf.shelf c.make.new.shelf) c.look.ensures.ran.on.continues c.in_err-make.ensures.counts)

pub returns-in_err-make-clause-any_moment : goal.returns-in_err-make-clause-any_moment
returns-in_err-make-clause-any_moment g c h clean blank spells =
    let a = g.S.Shelf.shelf c.args.shelf.now in
    let b = g.S.Shelf.shelf c.look.new.shelf in
    let n = g.S.Shelf.shelf c.make.new.shelf in
    let on = c.look.ensures.ran.on.continues in
    let same = c.look.ensures.same h in
    then_run on (while_reading a b clean blank (c.look.ensures.ran.on.writes h))
    (moments_of a b n on (c.make.ensures.any_moment (on.honest h) (still_clean a b on same clean) (still_blank a b on same blank) (c.in_ok-look.ensures.gates h) (spells_then a b c.args.body.now on spells)))

pub returns-clause-made : goal.returns-clause-made
returns-clause-made g c h clean spells =
    let a = g.S.Shelf.shelf c.args.shelf.now in
    let b = g.S.Shelf.shelf c.look.new.shelf in
    let on = c.look.ensures.ran.on.continues in
    c.in_ok-make.ensures.made (on.honest h) (still_clean a b on (c.look.ensures.same h) clean) (c.in_ok-look.ensures.gates h) (spells_then a b c.args.body.now on spells)

pub returns-clause-any_moment : goal.returns-clause-any_moment
returns-clause-any_moment g c h clean blank spells =
    let a = g.S.Shelf.shelf c.args.shelf.now in
    let b = g.S.Shelf.shelf c.look.new.shelf in
    let n = g.S.Shelf.shelf c.make.new.shelf in
    let on = c.look.ensures.ran.on.continues in
    let same = c.look.ensures.same h in
    then_run on (while_reading a b clean blank (c.look.ensures.ran.on.writes h))
    (moments_of a b n on (c.make.ensures.any_moment (on.honest h) (still_clean a b on same clean) (still_blank a b on same blank) (c.in_ok-look.ensures.gates h) (spells_then a b c.args.body.now on spells)))
