use Rattle.std.proofs.lemmas.List.{length-take-le}
use Rattle.request_codec.proofs.data.first_sector.Goals as goal

pub unreachable-requires : goal.unreachable-requires
unreachable-requires c = c.in-Err.ensures.1 (length-take-le 512 c.args.bytes.now c.requires)
