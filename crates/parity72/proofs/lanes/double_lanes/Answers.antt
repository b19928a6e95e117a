use Rattle.parity72.proofs.Prelude.{get_or, ap, ◌∙◌, bit_xor, get_or-replicate, doubled}
use lib.Bits.{xor_assoc, xor_self, xor_zero_r}
use Rattle.parity72.proofs.lanes.double_lanes.Goals as goal

pub returns : goal.returns
returns c k lt =
    let b = doubled (get_or c.args.lanes k 0) in
    c.add_lanes.ensures k lt
    ∙ ap (bit_xor (get_or c.double_lanes_and_1d.result k 0)) (get_or-replicate 64 k 29 0 lt)
    ∙ ap (λ x. bit_xor x 29) (c.double_lanes_and_1d.ensures k lt)
    ∙ xor_assoc b 29 29 ∙ ap (bit_xor b) (xor_self 29) ∙ xor_zero_r b
