use Rattle.dedup_index.proofs.EntryLemmas.{put-is}
use Rattle.dedup_index.proofs.index.Index.note_by.Goals as goal

pub returns-clause-ok : goal.returns-clause-ok
returns-clause-ok g c =
    rw (← c.self.view_is, c.in_ok-put.ensures.entries) (put-is c.args.hint c.args.at c.self.inside.cache.entries c.self.inside.cache.cap c.self.invariant)
