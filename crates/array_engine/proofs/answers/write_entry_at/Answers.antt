use Rattle.array_engine.proofs.Prelude.{sym, ◌∙◌}
use Rattle.array_engine.proofs.ReplyLemmas.{entry-at, none-past}
use Rattle.array_engine.proofs.answers.write_entry_at.Goals as goal

pub returns-in-Some-clause-gave : goal.returns-in-Some-clause-gave
returns-in-Some-clause-gave g c = λ h contents array reads lt.
    rw (entry-at array c.args.index c.in-Some.object (sym c.in-Some.is ∙ c.entry.ensures contents array reads)) (c.write_entry.ensures.gave h)

pub returns-in-None-clause-gave : goal.returns-in-None-clause-gave
returns-in-None-clause-gave g c = λ h contents array reads lt. absurd (none-past array c.args.index (sym c.in-None.is ∙ c.entry.ensures contents array reads) lt)
