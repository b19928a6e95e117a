use Rattle.session_spec.proofs.Resumed.{may_want_memory}
use Rattle.session_spec.proofs.chaining.memory_may_be_wanted.Goals as goal

pub returns : goal.returns
returns g c = may_want_memory (g.W.Shelf.shelf c.args._world.now) (g.W.Source.source c.args._world.now) (g.W.Sink.sink c.args._world.now) (g.met.W.Shelf.is_shelf _)
