use Rattle.array_engine.proofs.Prelude.{◌≡◌, length, arith}
use Rattle.array_engine.proofs.DataReplies.{all_written}
use Rattle.array_engine.proofs.buffers.ReadBuffers.read.Goals as goal

pub returns-clause-sectors : goal.returns-clause-sectors
returns-clause-sectors g c = λ honest.
    let size : c.args.self.now.reply.len ≡ length c.read_reply.new.reply = omega (arith, c.read_reply.auto.reply) in
    rw (all_written c.read_reply.new.reply _ c.args.self.now.reply.len size) (c.read_reply.ensures.sectors honest)
