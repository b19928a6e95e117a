use Rattle.array_spec.proofs.Prelude.{closing_gives_no_more, closing_still_gives}
use Rattle.array_spec.proofs.views.closing_gates.Goals as goal

pub returns-clause-gives : goal.returns-clause-gives
returns-clause-gives c = closing_gives_no_more

pub returns-clause-some : goal.returns-clause-some
returns-clause-some c = closing_still_gives
