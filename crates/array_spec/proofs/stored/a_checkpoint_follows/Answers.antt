use Rattle.array_spec.proofs.Follow.{checkpoint_follows}
use Rattle.array_spec.proofs.stored.a_checkpoint_follows.Goals as goal

pub returns : goal.returns
returns c = checkpoint_follows
