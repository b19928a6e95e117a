use Rattle.unit_map.proofs.Prelude.{w64, bit_at-trailing_zeros}
use Rattle.unit_map.proofs.bits.lowest_bit.Goals as goal

pub returns : goal.returns
returns c =
    let is = bit_at-trailing_zeros w64 c.args.word c.requires c.ranges.word.fits in
    record { within = is.0; set = is.1; below = is.2 }
