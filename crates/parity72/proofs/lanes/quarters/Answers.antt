use Rattle.parity72.proofs.LaneFacts.{quarters-in_order}
use Rattle.parity72.proofs.lanes.quarters.Goals as goal

pub returns-clause-in_order : goal.returns-clause-in_order
returns-clause-in_order c = quarters-in_order c.args.lanes c.fits-lanes.0
