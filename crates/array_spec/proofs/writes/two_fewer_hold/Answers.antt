use Rattle.array_spec.specs.lemmas.Fewer.{fewer_hold}
use Rattle.array_spec.proofs.writes.two_fewer_hold.Goals as goal

pub returns : goal.returns
returns c = fewer_hold
