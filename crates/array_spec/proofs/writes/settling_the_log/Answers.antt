use Rattle.array_spec.proofs.LogSettled.{settling_keeps}
use Rattle.array_spec.proofs.writes.settling_the_log.Goals as goal

pub returns : goal.returns
returns c = settling_keeps
