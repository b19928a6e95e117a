use Rattle.takeover.proofs.Prelude.{◌≡◌, sym, ◌∙◌, ap, subst, rules, None, Request, IsCommand, refusal}
use Rattle.takeover.proofs.Applying.{is_lawful, none_is}
use Rattle.takeover.proofs.replay.apply.Goals as goal

pub do_accepted-requires-clause-lawful : goal.do_accepted-requires-clause-lawful
do_accepted-requires-clause-lawful c = is_lawful c.args.logged.now.head.command (let read = c.requires.read in subst (λ (r : Request). IsCommand r) (sym read.3.request) read.2.command)

pub returns-clause-ok : goal.returns-clause-ok
returns-clause-ok c number command lawful read =
    c.in_ok-do_accepted.ensures.done number command lawful read
    (λ contents a reads.
    let none : c.refusal.result ≡ None = none_is c.refusal.result (search rules) in
    sym (ap (λ (r : Request). refusal a r) read.request) ∙ sym (c.refusal.ensures.array contents a reads) ∙ none)
