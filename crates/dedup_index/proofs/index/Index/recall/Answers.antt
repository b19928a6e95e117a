use Rattle.dedup_index.proofs.EntryLemmas.{promoted-is}
use Rattle.dedup_index.proofs.index.Index.recall.Goals as goal

pub returns-clause-entries : goal.returns-clause-entries
returns-clause-entries g c = rw (← c.self.view_is, c.get.follows.holds-at-none) (promoted-is c.args.hint c.self.inside.cache.entries)
