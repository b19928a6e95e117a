use Rattle.array_core.proofs.Logged.{log_writes_stand, log_writes_keep, log_writes_leave}
use Rattle.array_core.proofs.laws.log_writes.Goals as goal

pub returns-clause-stand : goal.returns-clause-stand
returns-clause-stand g c = log_writes_stand (g.S.Shelf.shelf c.args._old.now) (g.S.Shelf.shelf c.args._new.now) (g.met.S.Shelf.is_shelf _)

pub returns-clause-keep : goal.returns-clause-keep
returns-clause-keep g c = log_writes_keep (g.S.Shelf.shelf c.args._old.now) (g.S.Shelf.shelf c.args._new.now) (g.met.S.Shelf.is_shelf _) (g.met.S.Shelf.is_shelf _)

pub returns-clause-leave : goal.returns-clause-leave
returns-clause-leave g c = log_writes_leave (g.S.Shelf.shelf c.args._old.now) (g.S.Shelf.shelf c.args._new.now) (g.met.S.Shelf.is_shelf _)
