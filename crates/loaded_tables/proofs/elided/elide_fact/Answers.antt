use Rattle.pyramid.proofs.DistinctLemmas.{from_ok}
use Rattle.loaded_tables.proofs.ElidedLemmas.{adds_one}
use Rattle.loaded_tables.proofs.elided.elide_fact.Goals as goal

pub returns : goal.returns
returns c = from_ok c.elide_range.result _ _ c.elide_range.ensures.ids (λ ids. adds_one c.args.fact.now c.args.elided.now c.elide_range.new.self ids c.elide_range.ensures.others)
