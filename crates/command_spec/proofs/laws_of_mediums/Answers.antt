use Rattle.command_spec.proofs.Together.{snapshot_reads, clone_reads, copy_reads}
use Rattle.command_spec.proofs.laws_of_mediums.Goals as goal

pub returns : goal.returns
returns c = record {
  snapshot = snapshot_reads;
  cloned = clone_reads;
  copied = copy_reads;
}
