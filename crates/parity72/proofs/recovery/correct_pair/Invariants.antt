use Rattle.parity72.proofs.Prelude.{◌*◌, Fixes, with_pair}
use Rattle.parity72.proofs.recovery.correct_pair.Given as goal

abbrev pub invariant-loop-block : goal.invariant-loop-block
invariant-loop-block l = Fixes (with_pair l.a l.b l.by) l.fn.shards l.shards 0 (l.block * 64)
