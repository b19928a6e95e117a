use Rattle.world_mem.proofs.Prelude.{view}
use Rattle.world_mem.proofs.Steps.{drive_elapses, nv_elapses, counts_of_write}
use Rattle.world_mem.proofs.shelf.MemWorldShelf.sync.Goals as goal

pub returns-in-Drive-clause-time : goal.returns-in-Drive-clause-time
returns-in-Drive-clause-time c = let x = c.sync_in in drive_elapses (view c.args.self.now) c.in-Drive.d x.ensures.called (counts_of_write x.result _ _ x.ensures.counts)

pub returns-in-Nv-clause-time : goal.returns-in-Nv-clause-time
returns-in-Nv-clause-time c = let x = c.sync_in-in-Nv in nv_elapses (view c.args.self.now) c.in-Nv.n x.ensures.called (counts_of_write x.result _ _ x.ensures.counts)
