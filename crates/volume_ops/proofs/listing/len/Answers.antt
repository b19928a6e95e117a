use Rattle.volume_ops.proofs.FoundLemmas.{len_is}
use Rattle.volume_ops.proofs.listing.len.Goals as goal

pub returns-clause-array : goal.returns-clause-array
returns-clause-array c = len_is c.args.memory.now c.len.result c.kept.ensures c.len.ensures.len
