use Rattle.parity72.proofs.LaneFacts.{quarters-joined}
use Rattle.parity72.proofs.lanes.joined.Goals as goal

pub returns : goal.returns
returns c = quarters-joined c.args.a c.args.b c.args.c c.args.d c.fits-a.0 c.fits-b.0 c.fits-c.0 c.fits-d.0
