use Rattle.free_space.proofs.Prelude.{drop, patches_units}
use Rattle.free_space.proofs.Loops.{IsMarking}
use Rattle.free_space.proofs.marking.mark_patches.Given as goal

abbrev pub invariant-loop-index : goal.invariant-loop-index
invariant-loop-index l = IsMarking l.initial.map l.map (patches_units l.patches) (patches_units (drop l.index l.patches))
