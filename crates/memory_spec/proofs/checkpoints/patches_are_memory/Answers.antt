use Rattle.memory_spec.proofs.Prelude.{patches_are_flushed, patches_are_all, patches_read}
use Rattle.memory_spec.proofs.Records.{record_is_sound}
use Rattle.memory_spec.proofs.checkpoints.patches_are_memory.Goals as goal

pub returns : goal.returns
returns c = record {
  flushed = patches_are_flushed;
  all = patches_are_all;
  read = patches_read;
  sound = record_is_sound;
}
