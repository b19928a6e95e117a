use Rattle.array_spec.proofs.Prelude.{quiet_writes}
use Rattle.array_spec.proofs.writes.quiet_writes.Goals as goal

pub returns : goal.returns
returns c = quiet_writes
