use Rattle.unit_map.proofs.Prelude.{◌-◌, ◌^◌, arith}
use Rattle.unit_map.proofs.RoomLemmas.{room-start, groups-between}
use Rattle.unit_map.proofs.groups.groups_of.Goals as goal

pub loop-low-init : goal.loop-low-init
loop-low-init c = record {
  apart = omega arith;
  limit = omega (arith, c.total_at.ensures.limit);
  enough = omega arith;
  too_many = room-start c.args.drives.now (2 ^ 32 - 1) c.total_at.result (omega (arith, c.total_at.ensures.limit)) c.total_at.ensures.total;
}

pub returns : goal.returns
returns c = groups-between c.args.drives.now c.loop-low.low c.loop-low.high c.loop-low-test.false c.loop-low.invariant.enough c.loop-low.invariant.too_many
