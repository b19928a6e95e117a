use Rattle.memory_spec.proofs.Prelude.{volumes_own}
use Rattle.memory_spec.proofs.Putting.{putting_reads}
use Rattle.memory_spec.proofs.Created.{creating_reads}
use Rattle.memory_spec.proofs.laws_of_commands.Goals as goal

pub returns : goal.returns
returns c = record {
  own = volumes_own;
  put = putting_reads;
  created = creating_reads;
}
