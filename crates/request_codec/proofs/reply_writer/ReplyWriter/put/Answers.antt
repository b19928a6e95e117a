use Rattle.request_codec.proofs.Prelude.{err_from_is_err_and}
use Rattle.request_codec.proofs.WritingLemmas.{goes-front}
use Rattle.request_codec.proofs.reply_writer.ReplyWriter.put.Goals as goal

pub returns-in_err-flush-clause-gave : goal.returns-in_err-flush-clause-gave
returns-in_err-flush-clause-gave g c =
    let p = err_from_is_err_and c.from_residual.result c.from_residual.ensures.1 in rw p.1 (λ h.
    goes-front p.0 _ c.args.self.now _ c.args.text.now _ _ c.room-room.result c.append-2.ensures (c.in_err-flush.ensures.gave h))
