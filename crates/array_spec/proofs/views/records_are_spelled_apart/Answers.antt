use Rattle.array_spec.proofs.Prelude.{spells_one}
use Rattle.array_spec.proofs.views.records_are_spelled_apart.Goals as goal

pub returns : goal.returns
returns c = spells_one
