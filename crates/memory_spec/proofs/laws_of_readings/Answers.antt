use Rattle.memory_spec.proofs.Prelude.{same_reads, moved_reads, overwrite_reads}
use Rattle.memory_spec.proofs.Creating.{create_reads}
use Rattle.memory_spec.proofs.laws_of_readings.Goals as goal

pub returns : goal.returns
returns c = record {
  same = same_reads;
  moved = moved_reads;
  overwrite = overwrite_reads;
  create = create_reads;
}
