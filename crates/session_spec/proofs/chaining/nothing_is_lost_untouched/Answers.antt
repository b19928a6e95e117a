use Rattle.session_spec.proofs.Resumed.{nothing_done}
use Rattle.session_spec.proofs.chaining.nothing_is_lost_untouched.Goals as goal

pub returns : goal.returns
returns g c = nothing_done (g.S.Shelf.shelf c.args._shelf.now)
