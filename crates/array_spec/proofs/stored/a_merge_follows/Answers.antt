use Rattle.array_spec.proofs.Follow.{merge_follows}
use Rattle.array_spec.proofs.stored.a_merge_follows.Goals as goal

pub returns : goal.returns
returns c = merge_follows
