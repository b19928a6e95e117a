use Rattle.std.proofs.Common.{refl, length}
use Rattle.world.specs.lemmas.Writes.{write_writes, sync_writes, writes_then}
use Rattle.world.specs.Writes.{OneRange}
use Rattle.world.specs.lemmas.Ran.{ran_write, ran_sync, ran_then}
use Rattle.world.proofs.synced.write_synced.Goals as goal

pub returns-in_err-write-clause-writes : goal.returns-in_err-write-clause-writes
returns-in_err-write-clause-writes g c h =
    write_writes _ c.args.device (g.met.S.Shelf.is_shelf c.args.shelf.now) c.write.ensures.time c.write.ensures.others (c.write.ensures.device h) (λ i is. (refl, is))

pub returns-clause-writes : goal.returns-clause-writes
returns-clause-writes g c h =
    let W = OneRange c.args.device c.args.at (length c.args.from.now) in
    let first = c.write.ensures.time.continues in
    let wrote = write_writes W c.args.device (g.met.S.Shelf.is_shelf c.args.shelf.now) c.write.ensures.time c.write.ensures.others (c.write.ensures.device h) (λ i is. (refl, is)) in
    writes_then first wrote (sync_writes W c.args.device (g.met.S.Shelf.is_shelf c.write.new.self) c.sync.ensures.time c.sync.ensures.others (c.sync.ensures.device (first.honest h)))

pub returns-in_err-write-clause-ran : goal.returns-in_err-write-clause-ran
returns-in_err-write-clause-ran g c =
    ran_write c.args.device refl (g.met.S.Shelf.is_shelf c.args.shelf.now) c.write.ensures.time c.write.ensures.others c.write.ensures.rest c.write.ensures.device (λ i is. (refl, is))

pub returns-clause-ran : goal.returns-clause-ran
returns-clause-ran g c =
    ran_then g.met.S.Shelf.shelf_rest_stays
    (ran_write c.args.device refl (g.met.S.Shelf.is_shelf c.args.shelf.now) c.write.ensures.time c.write.ensures.others c.write.ensures.rest c.write.ensures.device (λ i is. (refl, is)))
    (ran_sync c.args.device refl (g.met.S.Shelf.is_shelf c.write.new.self) c.sync.ensures.time c.sync.ensures.others c.sync.ensures.rest c.sync.ensures.device)
