use Rattle.parity72.proofs.Prelude.{arith, get_or-put_chunk_below, get_or-put_chunk_at, get_or-put_chunk_above}
use Rattle.parity72.proofs.lanes.put_lanes.Goals as goal

pub returns-clause-below : goal.returns-clause-below
returns-clause-below c k lt = get_or-put_chunk_below c.args.at c.args.into.now _ k 0 lt

pub returns-clause-here : goal.returns-clause-here
returns-clause-here c k lt = get_or-put_chunk_at c.args.at c.args.into.now c.args.lanes k 0 (omega (arith, c.fits-lanes.0)) (omega (arith, c.fits-lanes.0))

pub returns-clause-above : goal.returns-clause-above
returns-clause-above c k le = get_or-put_chunk_above c.args.at c.args.into.now c.args.lanes k 0 (omega (arith, c.fits-lanes.0))
