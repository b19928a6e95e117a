use Rattle.boot_codec.proofs.PaddingLemmas.{one_more_zero}
use Rattle.boot_codec.proofs.padding.is_zero.Goals as goal

pub loop-byte-preserved : goal.loop-byte-preserved
loop-byte-preserved c = one_more_zero c.args.bytes.now c.loop-byte.any c.loop-byte.byte-index c.loop-byte-test.true c.loop-byte.invariant
