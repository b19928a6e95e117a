use Rattle.array_spec.proofs.Prelude.{one_is_decided}
use Rattle.array_spec.proofs.views.one_body_is_decided.Goals as goal

pub returns : goal.returns
returns c = one_is_decided
