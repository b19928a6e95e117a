use Rattle.array_spec.proofs.Held.{held_stands}
use Rattle.array_spec.proofs.standing.a_held_record_stands.Goals as goal

pub returns : goal.returns
returns c = held_stands
