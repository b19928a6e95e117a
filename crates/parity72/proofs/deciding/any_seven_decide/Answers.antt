use Rattle.parity72.proofs.SevenDecide.{seven-decide}
use Rattle.parity72.proofs.deciding.any_seven_decide.Goals as goal

pub returns : goal.returns
returns c = seven-decide
