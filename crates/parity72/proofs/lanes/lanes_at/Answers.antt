use Rattle.parity72.proofs.Prelude.{◌+◌, get_or-chunk}
use Rattle.parity72.proofs.lanes.lanes_at.Goals as goal

pub returns-clause-read : goal.returns-clause-read
returns-clause-read c k lt = get_or-chunk c.args.at 64 c.args.from.now k 0 lt

pub returns-clause-bytes : goal.returns-clause-bytes
returns-clause-bytes c k lt = (c.type_inv.from (c.args.at + k)).fits
