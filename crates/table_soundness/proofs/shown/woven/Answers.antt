use Rattle.table_soundness.proofs.Prelude.{arith}
use Rattle.std.proofs.lemmas.Grind.{common_steps}
use Rattle.table_soundness.proofs.NewestLemmas.{woven_nil}
use Rattle.table_soundness.proofs.shown.woven.Goals.{then-loop-i-test+else-j-newer, else-loop-i-test}
use Rattle.table_soundness.proofs.shown.woven.Goals as goal

pub returns : goal.returns
returns g c = elim c.loop-i-test.branch [
  | then-loop-i-test+else-j-newer w ↦ grind (arith, common_steps, woven_nil)
  | else-loop-i-test w ↦ grind (arith, common_steps)
]
