use Rattle.fact_codec.proofs.OneFact.{one_fact}
use Rattle.array_spec.proofs.uniqueness.one_fact_is_spelled.Goals as goal

pub returns : goal.returns
returns c = one_fact
