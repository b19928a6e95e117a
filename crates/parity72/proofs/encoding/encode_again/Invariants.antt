use Rattle.parity72.proofs.Prelude.{◌*◌, Encodes}
use Rattle.parity72.proofs.encoding.encode_again.Given as goal

abbrev pub invariant-loop-block : goal.invariant-loop-block
invariant-loop-block l = Encodes l.fn.shards l.shards (l.block * 64)
