use Rattle.array_engine.proofs.Prelude.{err_from_is_err_and}
use Rattle.array_engine.proofs.ReplyLemmas.{names-cut, names-then}
use Rattle.array_engine.proofs.answers.write_names.Goals as goal

pub returns-in_err-write_reply-clause-gave : goal.returns-in_err-write_reply-clause-gave
returns-in_err-write_reply-clause-gave g c =
    let p = err_from_is_err_and c.from_residual.result c.from_residual.ensures.1 in rw p.1 (λ h contents array reads.
    names-cut p.0 _ _ _ _ array (rw (c.len-count.ensures.array contents array reads) at c.in_err-write_reply.ensures.gave h))

pub returns-clause-gave : goal.returns-clause-gave
returns-clause-gave g c = λ h contents array reads.
    names-then c.write_entries.result _ _ _ _ _ _ array (rw (c.len-count.ensures.array contents array reads) at c.in_ok-write_reply.ensures.gave h) (c.in_ok-write_reply.ensures.extends h)
    (c.write_entries.ensures.gave (c.in_ok-write_reply.ensures.went.honest.0 h) contents array reads)
