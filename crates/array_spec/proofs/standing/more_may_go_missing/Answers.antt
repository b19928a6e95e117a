use Rattle.array_spec.proofs.Prelude.{more_may_go_missing}
use Rattle.array_spec.proofs.standing.more_may_go_missing.Goals as goal

pub returns : goal.returns
returns c = more_may_go_missing
