use Rattle.array_spec.proofs.Held.{nvram_keeps}
use Rattle.array_spec.proofs.writes.log_writes.Goals as goal

pub returns : goal.returns
returns c = nvram_keeps
