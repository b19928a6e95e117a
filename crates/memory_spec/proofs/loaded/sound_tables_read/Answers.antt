use Rattle.memory_spec.proofs.Sound.{sound_tables_read}
use Rattle.memory_spec.proofs.loaded.sound_tables_read.Goals as goal

pub returns : goal.returns
returns c = sound_tables_read
