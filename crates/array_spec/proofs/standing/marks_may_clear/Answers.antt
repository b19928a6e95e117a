use Rattle.array_spec.proofs.Cleared.{marks_may_clear}
use Rattle.array_spec.proofs.standing.marks_may_clear.Goals as goal

pub returns : goal.returns
returns c = marks_may_clear
