use Rattle.unit_map.proofs.Prelude.{◌-◌, ◌≤◌, ◌*◌, ◌<◌, SEGMENT_SHARDS, SLOTS_MAX, UNITS_MAX, total_at}
use Rattle.unit_map.proofs.groups.groups_of.Given as goal

abbrev pub invariant-loop-low : goal.invariant-loop-low
invariant-loop-low l = record {
  apart : l.low < l.high;
  limit : l.high ≤ SLOTS_MAX * UNITS_MAX;
  enough : SEGMENT_SHARDS * l.low ≤ total_at l.drives l.low;
  too_many : total_at l.drives l.high < SEGMENT_SHARDS * l.high;
}

abbrev pub decreases-loop-low : goal.decreases-loop-low
decreases-loop-low l = l.high - l.low
