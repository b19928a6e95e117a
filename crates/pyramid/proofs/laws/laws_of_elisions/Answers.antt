use Rattle.pyramid.proofs.ElisionLemmas.{nest_as_ranges, same_ids, elisions_grow}
use Rattle.pyramid.proofs.laws.laws_of_elisions.Goals as goal

pub returns : goal.returns
returns c = record { nest = nest_as_ranges; ids = same_ids; grow = elisions_grow }
