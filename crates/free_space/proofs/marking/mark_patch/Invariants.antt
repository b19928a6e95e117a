use Rattle.free_space.proofs.Prelude.{drop, patch_units}
use Rattle.free_space.proofs.Loops.{IsMarking}
use Rattle.free_space.proofs.marking.mark_patch.Given as goal

abbrev pub invariant-loop-segment : goal.invariant-loop-segment
invariant-loop-segment l = IsMarking l.initial.map l.map (patch_units l.segments) (patch_units (drop l.segment-index l.segments))
