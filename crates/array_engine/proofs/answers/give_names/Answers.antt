use Rattle.array_engine.proofs.Prelude.{Err, err_from_is_err_and}
use Rattle.array_engine.proofs.ReplyLemmas.{gave-flushed, gave-of-goes}
use Rattle.array_engine.proofs.answers.give_names.Goals as goal

pub returns-in_err-write_names-clause-gave : goal.returns-in_err-write_names-clause-gave
returns-in_err-write_names-clause-gave g c =
    let p = err_from_is_err_and c.from_residual.result c.from_residual.ensures.1 in rw p.1 (λ h contents array reads.
    gave-of-goes (Err p.0) _ _ _ _ (rw c.requires at (c.in_err-write_names.ensures.gave h contents array reads)) c.in_err-write_names.ensures.emptied)

pub returns-clause-gave : goal.returns-clause-gave
returns-clause-gave g c = λ h contents array reads.
    let went = c.in_ok-write_names.ensures.gave h contents array reads in
    gave-flushed c.flush.result _ _ _ _ _ _ (rw c.requires at went) (c.in_ok-write_names.ensures.extends h) (c.flush.ensures.gave (c.in_ok-write_names.ensures.went.honest.0 h)) c.flush.ensures.emptied
