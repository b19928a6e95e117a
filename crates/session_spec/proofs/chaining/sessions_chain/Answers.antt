use Rattle.session_spec.proofs.Resumed.{stops_chain, ends_chain, goes_on_at_once}
use Rattle.session_spec.proofs.chaining.sessions_chain.Goals as goal

pub returns-clause-stops : goal.returns-clause-stops
returns-clause-stops g c = stops_chain (g.S.Shelf.shelf c.args._next.now)

pub returns-clause-ends : goal.returns-clause-ends
returns-clause-ends g c = ends_chain (g.S.Shelf.shelf c.args._ended.now) (g.S.Shelf.shelf c.args._next.now)

pub returns-clause-at_once : goal.returns-clause-at_once
returns-clause-at_once g c = goes_on_at_once (g.S.Shelf.shelf c.args._ended.now)
