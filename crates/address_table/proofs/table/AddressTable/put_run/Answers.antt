use Rattle.address_table.proofs.Prelude.{◌∙◌, key_of, facts_in, facts_of, above_flushed, above_unflushed, number}
use Rattle.pyramid.proofs.DistinctLemmas.{from_ok}
use Rattle.address_table.proofs.AddressLemmas.{visible_over}
use Rattle.address_table.proofs.table.AddressTable.put_run.Goals as goal

pub insert_run-requires-clause-fresh : goal.insert_run-requires-clause-fresh
insert_run-requires-clause-fresh c = above_unflushed number (facts_of c.args.self.now.facts.patches) c.args.self.now.facts.unflushed c.args.run.now c.requires.newest

pub insert_run-requires-clause-rising : goal.insert_run-requires-clause-rising
insert_run-requires-clause-rising c = above_flushed number (facts_of c.args.self.now.facts.patches) c.args.self.now.facts.unflushed c.args.run.now c.requires.newest

pub returns-clause-says : goal.returns-clause-says
returns-clause-says c = from_ok c.insert_run.result _ _ c.insert_run.ensures.says (λ h elided medium sector. h elided (key_of medium sector)
    ∙ visible_over (facts_in c.args.self.now.facts) c.args.run.now elided (key_of medium sector) c.requires.newest)
