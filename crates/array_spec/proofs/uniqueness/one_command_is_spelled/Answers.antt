use Rattle.log_codec.proofs.OneHead.{one_command}
use Rattle.array_spec.proofs.uniqueness.one_command_is_spelled.Goals as goal

pub returns : goal.returns
returns c = one_command
