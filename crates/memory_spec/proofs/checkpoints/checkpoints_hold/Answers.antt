use Rattle.memory_spec.proofs.Checkpointed.{checkpoint_reads, checkpoint_is_sound, checkpoint_holds, checkpoint_data_holds}
use Rattle.memory_spec.proofs.checkpoints.checkpoints_hold.Goals as goal

pub returns : goal.returns
returns c = record {
  reads = checkpoint_reads;
  sound = checkpoint_is_sound;
  holds = checkpoint_holds;
  data_holds = checkpoint_data_holds;
}
