use Rattle.array_spec.proofs.Prelude.{reads_one}
use Rattle.array_spec.proofs.views.a_sector_reads_as_one_target.Goals as goal

pub returns : goal.returns
returns c = reads_one
