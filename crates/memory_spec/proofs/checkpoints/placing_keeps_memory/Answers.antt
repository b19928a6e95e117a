use Rattle.memory_spec.proofs.Placing.{placing_reads}
use Rattle.memory_spec.proofs.checkpoints.placing_keeps_memory.Goals as goal

pub returns : goal.returns
returns c = placing_reads
