use Rattle.array_spec.proofs.Prelude.{one_log}
use Rattle.array_spec.proofs.uniqueness.one_log_stands.Goals as goal

pub returns : goal.returns
returns c = λ view flushed base cs ds s t. one_log view flushed 0 base cs ds s t
