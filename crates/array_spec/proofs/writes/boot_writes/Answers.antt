use Rattle.array_spec.proofs.Store.{boot_keeps}
use Rattle.array_spec.proofs.writes.boot_writes.Goals as goal

pub returns : goal.returns
returns c = boot_keeps
