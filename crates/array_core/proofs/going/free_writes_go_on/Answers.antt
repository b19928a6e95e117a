use Rattle.array_core.proofs.FreeWrites.{free_writes_go_on}
use Rattle.array_core.proofs.going.free_writes_go_on.Goals as goal

pub returns : goal.returns
returns g c = free_writes_go_on (g.S.Shelf.shelf c.args._start.now) (g.S.Shelf.shelf c.args._now.now) (g.met.S.Shelf.is_shelf _)
