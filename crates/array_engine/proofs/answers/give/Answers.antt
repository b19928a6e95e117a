use Rattle.array_engine.proofs.ReplyLemmas.{gave-flushed}
use Rattle.array_engine.proofs.answers.give.Goals as goal

pub returns-clause-gave : goal.returns-clause-gave
returns-clause-gave g c = λ h.
    let went = c.in_ok-write_reply.ensures.gave h in
    gave-flushed c.flush.result _ _ _ _ _ _ (rw c.requires at went) (c.in_ok-write_reply.ensures.extends h) (c.flush.ensures.gave (c.in_ok-write_reply.ensures.went.honest.0 h)) c.flush.ensures.emptied
