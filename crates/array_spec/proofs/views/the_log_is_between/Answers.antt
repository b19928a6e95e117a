use Rattle.array_spec.proofs.Prelude.{log_is_between}
use Rattle.array_spec.proofs.views.the_log_is_between.Goals as goal

pub returns : goal.returns
returns c = log_is_between
