use Rattle.medium_table.proofs.MarkLemmas.{marked_first, marked_none}
use Rattle.medium_table.proofs.marks.mark.Goals as goal

pub returns-in-Some-clause-marked : goal.returns-in-Some-clause-marked
returns-in-Some-clause-marked c = λ found are. marked_first c.args.ranges.now c.args.marks.now found c.args.medium c.in-Some.place c.in-Some.ensures.found c.requires.each are

pub returns-in-None-clause-marked : goal.returns-in-None-clause-marked
returns-in-None-clause-marked c = λ found are. marked_none c.args.ranges.now c.args.marks.now found c.args.medium c.in-None.ensures.absent are
