use Rattle.free_space.proofs.Prelude.{◌-◌, ◌^◌, arith}
use Rattle.free_space.proofs.Left.{too_many_at_first, groups_between}
use Rattle.free_space.proofs.room.groups_of.Goals as goal

pub loop-low-init : goal.loop-low-init
loop-low-init c = record {
  apart = omega arith;
  limit = omega (arith, c.units_for.ensures.limit);
  enough = omega arith;
  too_many = too_many_at_first c.args.free.now (2 ^ 32 - 1) c.units_for.result (omega (arith, c.units_for.ensures.limit)) c.units_for.ensures.units;
}

pub returns : goal.returns
returns c = groups_between c.args.free.now c.loop-low.low c.loop-low.high c.loop-low-test.false c.loop-low.invariant.enough c.loop-low.invariant.too_many
