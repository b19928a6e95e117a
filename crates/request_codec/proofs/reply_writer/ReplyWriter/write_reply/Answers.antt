use Rattle.request_codec.proofs.Prelude.{err_from_is_err_and, line_text}
use Rattle.request_codec.proofs.WritingLemmas.{goes-first, goes-then}
use Rattle.request_codec.proofs.reply_writer.ReplyWriter.write_reply.Goals as goal

pub returns-in_err-put-clause-gave : goal.returns-in_err-put-clause-gave
returns-in_err-put-clause-gave g c =
    let p = err_from_is_err_and c.from_residual.result c.from_residual.ensures.1 in rw p.1 (λ h.
    goes-first p.0 _ _ (line_text c.args.reply.now) _ _ _ (rw (c.as_slice.ensures.value, c.push_reply.ensures) at c.in_err-put.ensures.gave h))

pub returns-clause-gave : goal.returns-clause-gave
returns-clause-gave g c = λ h.
    let line = rw (c.as_slice.ensures.value, c.push_reply.ensures) at c.in_ok-put.ensures.gave h in
    goes-then c.put_sectors.result _ _ (line_text c.args.reply.now) _ _ _ _ _ line (c.in_ok-put.ensures.extends h) (c.put_sectors.ensures.gave (c.in_ok-put.ensures.went.honest.0 h))
