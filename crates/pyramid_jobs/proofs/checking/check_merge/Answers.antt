use Rattle.pyramid_jobs.proofs.Prelude.{◌+◌, ◌<◌, sym, arith, pair_segments}
use Rattle.record_tables.proofs.Pairs.{few_segments}
use Rattle.pyramid_jobs.proofs.checking.check_merge.Goals as goal

pub overflow_add-pair : goal.overflow_add-pair
overflow_add-pair c =
    let within = few_segments c.args.table c.args.index c.args.array.now.register.record.patches in
    let few = c.requires.is_of.1.of_shelf.lawful.lawful.patches.room in
    let own = (rw c.record.ensures at c.in-Some.ensures.some).2 in
    omega (arith, within, few, own)

pub returns-then-room-pair-clause-fault : goal.returns-then-room-pair-clause-fault
returns-then-room-pair-clause-fault c =
    let some = rw c.record.ensures at c.in-Some.ensures.some in
    let own = some.2 in
    let less : c.args.room.now.groups < 12 + pair_segments c.args.table c.args.index c.args.array.now.register.record.patches = omega (arith, own, c.if-room-pair.true) in
    (sym c.if-is_spent.ensures, some.0, (c.args.room.now.groups, c.requires.room.groups, less))

pub returns-clause-may : goal.returns-clause-may
returns-clause-may c =
    let some = rw c.record.ensures at c.in-Some.ensures.some in
    let own = some.2 in
    record { unspent = sym c.if-is_spent.ensures; there = some.0; groups = c.args.room.now.groups; left = c.requires.room.groups; enough = omega (arith, own, c.if-room-pair.false) }
