use Rattle.elision.proofs.CountLemmas.{few_ranges}
use Rattle.elision.proofs.laws.laws_of_ranges.Goals as goal

pub returns : goal.returns
returns c = record { few = few_ranges }
