use Rattle.std.proofs.Common.{rules}
use Rattle.std.proofs.lemmas.List.Elements.{recursion_from_All}
use Rattle.pur_base.specs.Prelude.{FitsBytes}
use Rattle.segment_codec.specs.Header.{header_bytes}
use Rattle.segment_codec.proofs.writing.write_header.Goals as goal

pub returns : goal.returns
unfolding header_bytes
returns c = record {
  header = record {
    lawful = c.requires.lawful;
    segment = search rules;
    generation = search rules;
    part = search rules;
    parts = search rules;
    facts = search rules;
    nine = search rules;
    places = recursion_from_All FitsBytes c.args.header.now.places c.put_places.ensures.fits;
  };
  bytes = search rules;
}
