use Rattle.parity72.proofs.Prelude.{arith, w8, Each1-get_or}
use mir.Val.{Fits}
use Rattle.parity72.proofs.LaneFacts.{doubles-at}
use Rattle.parity72.proofs.lanes.double_quarter.Goals as goal

pub returns : goal.returns
returns c k lt =
    doubles-at 16 c.args.lanes c.fits-lanes.0 k lt (Each1-get_or (Fits w8) c.args.lanes k 0 (omega (arith, c.fits-lanes.0)) c.fits-lanes.1).fits
