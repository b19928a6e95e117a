use Rattle.medium_table.proofs.Prelude.{facts_of, above_flushed, above_unflushed, number}
use Rattle.medium_table.proofs.table.MediumTable.put_run.Goals as goal

pub insert_run-requires-clause-fresh : goal.insert_run-requires-clause-fresh
insert_run-requires-clause-fresh c = above_unflushed number (facts_of c.args.self.now.facts.patches) c.args.self.now.facts.unflushed c.args.run.now c.requires.newest

pub insert_run-requires-clause-rising : goal.insert_run-requires-clause-rising
insert_run-requires-clause-rising c = above_flushed number (facts_of c.args.self.now.facts.patches) c.args.self.now.facts.unflushed c.args.run.now c.requires.newest
