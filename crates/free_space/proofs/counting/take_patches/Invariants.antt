use Rattle.free_space.proofs.Prelude.{drop, patches_units}
use Rattle.free_space.proofs.Taking.{IsTaking}
use Rattle.free_space.proofs.counting.take_patches.Given as goal

abbrev pub invariant-loop-index : goal.invariant-loop-index
invariant-loop-index l = IsTaking l.initial.free l.free (patches_units l.patches) (patches_units (drop l.index l.patches))
