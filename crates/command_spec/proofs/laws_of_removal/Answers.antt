use Rattle.command_spec.proofs.Removed.{removal_reads}
use Rattle.command_spec.proofs.laws_of_removal.Goals as goal

pub returns : goal.returns
returns c = removal_reads
