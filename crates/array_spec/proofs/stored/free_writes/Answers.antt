use Rattle.array_spec.proofs.Free.{free_is_unused}
use Rattle.array_spec.proofs.Prelude.{free_writes_keep}
use Rattle.array_spec.proofs.stored.free_writes.Goals as goal

pub returns-clause-unused : goal.returns-clause-unused
returns-clause-unused c = free_is_unused

pub returns-clause-keep : goal.returns-clause-keep
returns-clause-keep c = free_writes_keep
