use Rattle.array_spec.proofs.Shown.{shown_stands}
use Rattle.array_spec.proofs.standing.missing_devices_may_turn_blank.Goals as goal

pub returns : goal.returns
returns c = shown_stands
