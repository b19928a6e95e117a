use Rattle.pyramid.proofs.Prelude.{take, All, Ascends}
use Rattle.pyramid.proofs.pyramid.all_ascend.Given as goal

abbrev pub invariant-loop-patch : goal.invariant-loop-patch
invariant-loop-patch g l = All (Ascends g.F.Fact.key) (take l.patch-index l.patches)
