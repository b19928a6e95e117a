use Rattle.parity72.proofs.Prelude.{get_or, replicate, ap, sym, ◌∙◌, get_or-replicate, length-zip2}
use lib.Bits.{bit_and}
use Rattle.parity72.proofs.LaneFacts.{len-rep, zip-at}
use Rattle.parity72.proofs.lanes.places.Goals as goal

pub returns-clause-long : goal.returns-clause-long
returns-clause-long c = length-zip2 bit_and c.args.lanes (replicate 16 143) (c.fits-lanes.0 ∙ sym (len-rep 16 143)) ∙ c.fits-lanes.0

pub returns-clause-each : goal.returns-clause-each
returns-clause-each c k lt =
    let v = c.args.lanes in
    zip-at bit_and 16 v (replicate 16 143) c.fits-lanes.0 (len-rep 16 143) k lt ∙ ap (bit_and (get_or v k 0)) (get_or-replicate 16 k 143 0 lt)
