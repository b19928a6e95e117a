use Rattle.memory_spec.proofs.Eliding.{eliding_reads}
use Rattle.memory_spec.proofs.checkpoints.eliding_keeps_memory.Goals as goal

pub returns : goal.returns
returns c = eliding_reads
