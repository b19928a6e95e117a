use Rattle.std.proofs.Common.{sym, ap, not}
use Rattle.dedup_index.proofs.EntryLemmas.{turned-promoted, turned-popped}
use Rattle.dedup_index.proofs.index.Index.turn.Goals as goal

pub returns-then-eq : goal.returns-then-eq
returns-then-eq g c =
    rw (← c.self.view_is, c.pop_lru.ensures.entries) (turned-popped c.args.segment c.self.inside.cache.entries (c.in-Some.hint.now, c.in-Some.at.now) (sym c.in-Some.ensures) (sym (ap not c.if-eq.ensures)))

pub returns-else-eq : goal.returns-else-eq
returns-else-eq g c =
    rw (← c.self.view_is, c.promote.ensures.entries) (turned-promoted c.args.segment c.self.inside.cache.entries (c.in-Some.hint.now, c.in-Some.at.now) (sym c.in-Some.ensures) c.len-entries.ensures.valid.0 (sym (ap not c.if-eq.ensures)))
