use Rattle.command_spec.proofs.Flattened.{flattened_reads}
use Rattle.command_spec.proofs.FlattenedSound.{flattened_sound}
use Rattle.command_spec.proofs.laws_of_flattening.Goals as goal

pub returns-clause-sound : goal.returns-clause-sound
returns-clause-sound c = flattened_sound

pub returns-clause-reads : goal.returns-clause-reads
returns-clause-reads c = λ contents was now r until given array reads may has. record {
  sound = flattened_sound was now r until given reads.sound may has;
  reads = flattened_reads was now r until given reads.sound may has contents array reads.reads;
}
