use Rattle.elision.proofs.Prelude.{arith}
use Rattle.std.proofs.lemmas.Grind.{common_steps}
use Rattle.elision.specs.lemmas.Merging.{merged_nil}
use Rattle.elision.proofs.merging.merge_facts.Goals.{then-loop-i-test+else-j-newer, else-loop-i-test}
use Rattle.elision.proofs.merging.merge_facts.Goals as goal

pub returns : goal.returns
returns g c = elim c.loop-i-test.branch [
  | then-loop-i-test+else-j-newer w ↦ grind (arith, common_steps, merged_nil)
  | else-loop-i-test w ↦ grind (arith, common_steps)
]
