use Rattle.array_core.proofs.Kept.{plans_stand}
use Rattle.array_core.proofs.laws.written_tables.Goals as goal

pub returns : goal.returns
returns g c = plans_stand (g.S.Shelf.shelf c.args._shelf.now)
