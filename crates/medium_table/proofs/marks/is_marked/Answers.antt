use Rattle.medium_table.proofs.Prelude.{ap, id_of_medium}
use Rattle.medium_table.proofs.marks.is_marked.Goals as goal

pub returns-in-None : goal.returns-in-None
returns-in-None c = λ found r are there same. absurd (c.in-None.ensures.absent r there (ap id_of_medium same))
