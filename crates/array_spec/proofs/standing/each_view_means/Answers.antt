use Rattle.array_spec.proofs.Prelude.{standing_means}
use Rattle.array_spec.proofs.standing.each_view_means.Goals as goal

pub returns : goal.returns
returns c = standing_means
