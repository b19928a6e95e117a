use Rattle.parity72.proofs.Prelude.{◌<◌, get_or, replicate, ap, sym, ◌∙◌, arith, Each1-zip2, Each2-splat, Each1-all, get_or-replicate, length-zip2}
use lib.Bits.{bit_and, and_le_r, and_mask}
use Rattle.parity72.proofs.LaneFacts.{len-rep, zip-at}
use Rattle.parity72.proofs.lanes.low_half.Goals as goal

pub returns-clause-long : goal.returns-clause-long
returns-clause-long c = length-zip2 bit_and c.args.lanes (replicate 64 15) (c.fits-lanes.0 ∙ sym (len-rep 64 15)) ∙ c.fits-lanes.0

pub returns-clause-each : goal.returns-clause-each
returns-clause-each c k lt =
    let v = c.args.lanes in
    zip-at bit_and 64 v (replicate 64 15) c.fits-lanes.0 (len-rep 64 15) k lt
    ∙ ap (bit_and (get_or v k 0)) (get_or-replicate 64 k 15 0 lt)
    ∙ and_mask (get_or v k 0) 4

pub returns-clause-small : goal.returns-clause-small
returns-clause-small c =
    let v = c.args.lanes in
    let small = Each1-all (λ a. bit_and a 15 < 16) (λ a. omega (arith, and_le_r a 15)) v in
    Each1-zip2 bit_and (λ j. j < 16) v (replicate 64 15) (Each2-splat (λ a b. bit_and a b < 16) v 64 15 small)
