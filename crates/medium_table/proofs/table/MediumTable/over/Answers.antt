use Rattle.medium_table.proofs.Prelude.{◌∙◌, key_of, facts_in}
use Rattle.pyramid.proofs.DistinctLemmas.{from_ok}
use Rattle.medium_table.proofs.RangeLemmas.{whole_over}
use Rattle.medium_table.proofs.table.MediumTable.over.Goals as goal

pub returns-clause-says : goal.returns-clause-says
returns-clause-says c = from_ok c.put_run.result _ _ c.put_run.ensures.says (λ h elided medium start. h elided (key_of medium start)
    ∙ whole_over (facts_in c.args.self.now.facts) c.args.ranges.now elided (key_of medium start) c.requires.newest c.requires.whole)
