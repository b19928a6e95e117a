use Rattle.array_spec.proofs.Prelude.{opening_gives, opening_still_gives}
use Rattle.array_spec.proofs.views.opening_gates.Goals as goal

pub returns-clause-gives : goal.returns-clause-gives
returns-clause-gives c = opening_gives

pub returns-clause-some : goal.returns-clause-some
returns-clause-some c = opening_still_gives
