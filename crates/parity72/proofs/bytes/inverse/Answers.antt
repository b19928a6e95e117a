use Rattle.parity72.proofs.Prelude.{arith}
use Rattle.parity72.proofs.Inverses.{inverse-times}
use Rattle.parity72.proofs.bytes.inverse.Goals as goal

pub returns : goal.returns
returns c = inverse-times c.args.b c.requires (omega arith)
