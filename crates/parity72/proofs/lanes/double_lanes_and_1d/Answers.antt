use Rattle.parity72.proofs.Prelude.{arith, w8, Each1-get_or}
use mir.Val.{Fits}
use Rattle.parity72.proofs.LaneFacts.{doubles_and_1d-at}
use Rattle.parity72.proofs.lanes.double_lanes_and_1d.Goals as goal

pub returns : goal.returns
returns c k lt =
    let v = c.args.lanes in
    doubles_and_1d-at 64 v c.reductions_left_out.result c.fits-lanes.0 c.reductions_left_out.ensures.long k lt
    (Each1-get_or (Fits w8) v k 0 (omega (arith, c.fits-lanes.0)) c.fits-lanes.1).fits (c.reductions_left_out.ensures.each k lt)
