use Rattle.world.proofs.Untallied.{none_in}
use Rattle.world.proofs.tallies.Tallies.new.Goals as goal

pub returns : goal.returns
returns c d = none_in 24 2 d
