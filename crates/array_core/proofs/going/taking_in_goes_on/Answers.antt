use Rattle.array_core.proofs.TakenIn.{taken_in_goes}
use Rattle.array_core.proofs.going.taking_in_goes_on.Goals as goal

pub returns : goal.returns
returns g c = taken_in_goes (g.S.Shelf.shelf c.args._shelf.now) (g.met.S.Shelf.is_shelf _)
