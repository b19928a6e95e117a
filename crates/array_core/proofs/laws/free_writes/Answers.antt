use Rattle.array_core.proofs.Standing.{free_writes_stand}
use Rattle.array_core.proofs.Kept.{free_writes_keep_open, free_writes_leave, free_writes_may_store}
use Rattle.array_core.proofs.laws.free_writes.Goals as goal

pub returns-clause-stand : goal.returns-clause-stand
returns-clause-stand g c = free_writes_stand (g.S.Shelf.shelf c.args._old.now) (g.S.Shelf.shelf c.args._new.now) (g.met.S.Shelf.is_shelf _)

pub returns-clause-keep : goal.returns-clause-keep
returns-clause-keep g c = free_writes_keep_open (g.S.Shelf.shelf c.args._old.now) (g.S.Shelf.shelf c.args._new.now) (g.met.S.Shelf.is_shelf _) (g.met.S.Shelf.is_shelf _)

pub returns-clause-leave : goal.returns-clause-leave
returns-clause-leave g c = free_writes_leave (g.S.Shelf.shelf c.args._old.now) (g.S.Shelf.shelf c.args._new.now) (g.met.S.Shelf.is_shelf _)

pub returns-clause-may_store : goal.returns-clause-may_store
returns-clause-may_store g c = free_writes_may_store (g.S.Shelf.shelf c.args._old.now) (g.S.Shelf.shelf c.args._new.now) (g.met.S.Shelf.is_shelf _) (g.met.S.Shelf.is_shelf _)
