use Rattle.std.proofs.Common.{ap, arith, rules, length}
use Rattle.log_codec.proofs.fields.Fields.of.Goals as goal

pub returns : goal.returns
returns c = record {
  bytes = cc;
  magic = search rules;
  number = search rules;
  count = search rules;
  lba = search rules;
  second_lba = search rules;
  first = search rules;
  second = search rules;
  rest = omega (arith, ap length c.as_bytes.ensures.bytes);
}
