use Rattle.memory_spec.proofs.Standing.{base_is_read, written_holds, written_data_holds}
use Rattle.memory_spec.proofs.checkpoints.what_was_written_stands.Goals as goal

pub returns : goal.returns
returns c = record {
  base = base_is_read;
  holds = written_holds;
  data_holds = written_data_holds;
}
