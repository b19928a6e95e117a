use Rattle.std.proofs.Common.{ap, ◌∙◌, arith}
use Rattle.dedup_index.proofs.EntryLemmas.{turned, turned-more}
use Rattle.dedup_index.proofs.index.Index.forget.Goals as goal

pub loop-turn-preserved : goal.loop-turn-preserved
loop-turn-preserved g c =
    c.turn.ensures ∙ ap (turned c.args.segment) c.loop-turn.invariant ∙ turned-more c.args.segment c.args.self.now c.loop-turn._turn (omega arith)
