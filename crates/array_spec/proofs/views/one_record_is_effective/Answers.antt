use Rattle.array_spec.proofs.Prelude.{one_is_effective}
use Rattle.array_spec.proofs.views.one_record_is_effective.Goals as goal

pub returns : goal.returns
returns c = one_is_effective
