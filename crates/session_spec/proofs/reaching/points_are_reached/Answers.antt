use Rattle.session_spec.proofs.Reached.{output_is_bounded, output_counts, counts_stay, point_is_reached}
use Rattle.session_spec.proofs.reaching.points_are_reached.Goals as goal

pub returns-clause-bounded : goal.returns-clause-bounded
returns-clause-bounded g c = output_is_bounded (g.S.Shelf.shelf c.args._before.now) (g.S.Shelf.shelf c.args._after.now)

pub returns-clause-counts : goal.returns-clause-counts
returns-clause-counts g c = output_counts (g.S.Shelf.shelf c.args._before.now) (g.S.Shelf.shelf c.args._after.now)

pub returns-clause-stay : goal.returns-clause-stay
returns-clause-stay g c = counts_stay (g.S.Shelf.shelf c.args._at.now) (g.S.Shelf.shelf c.args._before.now) (g.S.Shelf.shelf c.args._after.now)

pub returns-clause-reached : goal.returns-clause-reached
returns-clause-reached g c = point_is_reached (g.S.Shelf.shelf c.args._at.now) (g.S.Shelf.shelf c.args._after.now)
