use Rattle.free_space.proofs.Prelude.{drop, data_units}
use Rattle.free_space.proofs.Loops.{IsMarking}
use Rattle.free_space.proofs.marking.mark_data.Given as goal

abbrev pub invariant-loop-segment : goal.invariant-loop-segment
invariant-loop-segment l = IsMarking l.initial.map l.map (data_units l.segments) (data_units (drop l.segment-index l.segments))
