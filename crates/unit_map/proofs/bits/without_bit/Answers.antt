use Rattle.unit_map.proofs.Prelude.{w64, bit_at_clear_same, bit_at_clear_other}
use Rattle.unit_map.proofs.bits.without_bit.Goals as goal

pub returns : goal.returns
returns c = record {
  changed = bit_at_clear_same w64 c.args.word c.args.at c.requires;
  others = λ i within apart. bit_at_clear_other w64 c.args.word c.args.at c.requires i within apart;
}
