use Rattle.segment_io.proofs.Prelude.{◌≤◌, ◌-◌, length, IsDataFrom}
use Rattle.segment_io.proofs.runs.copy_data.Given as goal

abbrev pub invariant-loop-done : goal.invariant-loop-done
invariant-loop-done l = record {
  within : l.done ≤ length l.into;
  holds : IsDataFrom l.shards l.offset l.done l.into;
}

abbrev pub decreases-loop-done : goal.decreases-loop-done
decreases-loop-done l = length l.initial.into - l.done
