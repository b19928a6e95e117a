use Rattle.volume_ops.proofs.FoundLemmas.{line_at, no_line}
use Rattle.volume_ops.proofs.listing.entry.Goals as goal

pub returns-in-Some : goal.returns-in-Some
returns-in-Some c = λ contents array r.
    rw (c.is_snapshot.ensures, c.from.ensures) (line_at c.args.memory.now c.args.index c.in-Some.object c.kept.ensures c.in-Some.ensures contents array r)

pub returns-in-None : goal.returns-in-None
returns-in-None c = no_line c.args.memory.now c.args.index c.kept.ensures c.in-None.ensures
