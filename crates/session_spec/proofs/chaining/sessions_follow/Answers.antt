use Rattle.session_spec.proofs.Followed.{served_follows, unopened_follows}
use Rattle.session_spec.proofs.chaining.sessions_follow.Goals as goal

pub returns-clause-served : goal.returns-clause-served
returns-clause-served g c = served_follows (g.S.Shelf.shelf c.args._old.now) (g.S.Shelf.shelf c.args._new.now) (g.S.Shelf.shelf c.args._next.now)

pub returns-clause-unopened : goal.returns-clause-unopened
returns-clause-unopened g c = unopened_follows (g.S.Shelf.shelf c.args._old.now) (g.S.Shelf.shelf c.args._new.now) (g.S.Shelf.shelf c.args._next.now)
