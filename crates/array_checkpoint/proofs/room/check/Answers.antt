use Rattle.array_checkpoint.proofs.Prelude.{◌<◌, sym, arith, patch_segments}
use Rattle.array_checkpoint.proofs.room.check.Goals as goal

pub returns-then-room-floor-clause-err : goal.returns-then-room-floor-clause-err
returns-then-room-floor-clause-err c =
    let few : patch_segments c.args.array.now.register.record.patches < c.args.limit = omega (arith, c.requires.segments, c.if-room-limit.false) in
    (few, sym c.if-is_spent.ensures, (c.args.room.now.groups, c.requires.groups, c.if-room-floor.true))

pub returns-clause-ok : goal.returns-clause-ok
returns-clause-ok c = record {
  unlimited = omega (arith, c.requires.segments, c.if-room-limit.false);
  unspent = sym c.if-is_spent.ensures;
  groups = c.args.room.now.groups;
  left = c.requires.groups;
  enough = c.if-room-floor.false;
}
