use Rattle.array_spec.proofs.Store.{store_keeps}
use Rattle.array_spec.proofs.writes.stores.Goals as goal

pub returns : goal.returns
returns c = store_keeps
