use Rattle.unit_map.proofs.Prelude.{w64, bit_at_set_same, bit_at_set_other}
use Rattle.unit_map.proofs.bits.with_bit.Goals as goal

pub returns : goal.returns
returns c = record {
  changed = bit_at_set_same w64 c.args.word c.args.at c.requires;
  others = λ i within apart. bit_at_set_other w64 c.args.word c.args.at c.requires i apart;
}
