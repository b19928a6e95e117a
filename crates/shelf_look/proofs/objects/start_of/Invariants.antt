use Rattle.shelf_look.proofs.Prelude.{◌≤◌, ◌-◌, length}
use Rattle.shelf_look.proofs.objects.start_of.Given as goal

abbrev pub invariant-loop-low : goal.invariant-loop-low
invariant-loop-low l = record {
  order : l.low ≤ l.high;
  within : l.high ≤ length l.segments;
}

abbrev pub decreases-loop-low : goal.decreases-loop-low
decreases-loop-low l = l.high - l.low
