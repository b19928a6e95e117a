use Rattle.std.proofs.Common.{ap, arith, rules, length}
use Rattle.std.proofs.lemmas.List.Elements.{recursion_from_All}
use Rattle.pur_base.specs.Prelude.{FitsBytes}
use Rattle.segment_codec.proofs.fields.Fields.of.Goals as goal

pub returns : goal.returns
returns c = record {
  bytes = cc;
  magic = search rules;
  segment = search rules;
  generation = search rules;
  placed = search rules;
  padding = search rules;
  part = search rules;
  parts = search rules;
  facts = search rules;
  nine = search rules;
  places = recursion_from_All FitsBytes c.places_in.result.0 c.places_in.ensures.fits;
  rest = omega (arith, ap length c.as_bytes.ensures.bytes);
}
