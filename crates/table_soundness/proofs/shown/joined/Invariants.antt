use Rattle.table_soundness.proofs.Prelude.{◌≡◌, take, facts_of}
use Rattle.table_soundness.proofs.shown.joined.Given as goal

abbrev pub invariant-loop-patch : goal.invariant-loop-patch
invariant-loop-patch g l = l.out.items ≡ facts_of (take l.patch-index l.patches)
