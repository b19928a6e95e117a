use Rattle.free_space.proofs.Prelude.{drop, patch_units}
use Rattle.free_space.proofs.Taking.{IsTaking}
use Rattle.free_space.proofs.counting.take_patch.Given as goal

abbrev pub invariant-loop-segment : goal.invariant-loop-segment
invariant-loop-segment l = IsTaking l.initial.free l.free (patch_units l.segments) (patch_units (drop l.segment-index l.segments))
