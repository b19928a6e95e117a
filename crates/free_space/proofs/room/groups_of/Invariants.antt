use Rattle.free_space.proofs.Prelude.{◌-◌, ◌≤◌, ◌*◌, ◌<◌, SEGMENT_SHARDS, SLOTS_MAX, units_for}
use Rattle.free_space.proofs.room.groups_of.Given as goal

abbrev pub invariant-loop-low : goal.invariant-loop-low
invariant-loop-low l = record {
  apart : l.low < l.high;
  limit : l.high ≤ SLOTS_MAX * 65535;
  enough : SEGMENT_SHARDS * l.low ≤ units_for l.low l.free;
  too_many : units_for l.high l.free < SEGMENT_SHARDS * l.high;
}

abbrev pub decreases-loop-low : goal.decreases-loop-low
decreases-loop-low l = l.high - l.low
