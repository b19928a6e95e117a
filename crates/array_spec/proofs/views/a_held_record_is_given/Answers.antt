use Rattle.array_spec.proofs.Prelude.{held_is_given}
use Rattle.array_spec.proofs.views.a_held_record_is_given.Goals as goal

pub returns : goal.returns
returns c = held_is_given
