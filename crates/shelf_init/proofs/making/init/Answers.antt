use Rattle.shelf_init.proofs.CallLemmas.{spelled_for}
use Rattle.shelf_init.proofs.InitLemmas.{at_start}
use Rattle.shelf_init.proofs.making.init.Goals as goal

pub returns-in_err-regions-clause-any_moment : goal.returns-in_err-regions-clause-any_moment
returns-in_err-regions-clause-any_moment g c h clean blank = at_start (g.S.Shelf.shelf c.args.shelf.now) (g.met.S.Shelf.is_shelf c.args.shelf.now) clean blank

pub returns-in_err-body-clause-any_moment : goal.returns-in_err-body-clause-any_moment
returns-in_err-body-clause-any_moment g c h clean blank = at_start (g.S.Shelf.shelf c.args.shelf.now) (g.met.S.Shelf.is_shelf c.args.shelf.now) clean blank

pub returns-clause-made : goal.returns-clause-made
returns-clause-made g c h clean =
    let a = g.S.Shelf.shelf c.args.shelf.now in
    c.make_on.ensures.made h clean (spelled_for a c.drives-2.result c.units.result c.deref.result.now c.in_ok-body.body.items c.deref.ensures.value c.in_ok-body.ensures.spelled c.drives-2.ensures c.units.ensures)

pub returns-clause-any_moment : goal.returns-clause-any_moment
returns-clause-any_moment g c h clean blank =
    let a = g.S.Shelf.shelf c.args.shelf.now in
    c.make_on.ensures.any_moment h clean blank (spelled_for a c.drives-2.result c.units.result c.deref.result.now c.in_ok-body.body.items c.deref.ensures.value c.in_ok-body.ensures.spelled c.drives-2.ensures c.units.ensures)
