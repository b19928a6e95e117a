use Rattle.segment_io.proofs.Prelude.{arith}
use Rattle.segment_io.proofs.Flat.{codewords_more}
use Rattle.segment_io.proofs.appending.encode_run.Goals as goal

pub loop-number-preserved : goal.loop-number-preserved
loop-number-preserved c =
    codewords_more c.args.stripes.now c.loop-number.p c.loop-number.q c.loop-number.number c.encode.new.p c.encode.new.q (omega (arith, c.loop-number-test.true, c.loop-number.auto.p, c.requires.room.0)) (omega (arith, c.loop-number-test.true, c.loop-number.auto.q, c.requires.room.1))
    c.encode.ensures c.loop-number.invariant
