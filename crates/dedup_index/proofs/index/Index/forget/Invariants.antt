use Rattle.std.proofs.Common.{◌≡◌}
use Rattle.dedup_index.proofs.EntryLemmas.{after_turns}
use Rattle.dedup_index.proofs.index.Index.forget.Given as goal

abbrev pub invariant-loop-turn : goal.invariant-loop-turn
invariant-loop-turn g l = l.self ≡ after_turns l.fn.segment l.fn.self l._turn
