use Rattle.free_space.proofs.Prelude.{drop, data_units}
use Rattle.free_space.proofs.Taking.{IsTaking}
use Rattle.free_space.proofs.counting.take_data.Given as goal

abbrev pub invariant-loop-segment : goal.invariant-loop-segment
invariant-loop-segment l = IsTaking l.initial.free l.free (data_units l.segments) (data_units (drop l.segment-index l.segments))
