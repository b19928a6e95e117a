use Rattle.volume_ops.proofs.FoundLemmas.{found_has}
use Rattle.volume_ops.proofs.found.found.Goals as goal

pub returns-clause-array : goal.returns-clause-array
returns-clause-array c = found_has c.args.memory.now c.args.name.now c.get.result c.kept.ensures c.get.ensures.some c.get.ensures.none
