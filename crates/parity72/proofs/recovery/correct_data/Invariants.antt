use Rattle.parity72.proofs.Prelude.{◌*◌, Fixes, with_data}
use Rattle.parity72.proofs.recovery.correct_data.Given as goal

abbrev pub invariant-loop-block : goal.invariant-loop-block
invariant-loop-block l = Fixes (with_data l.a) l.fn.shards l.shards 0 (l.block * 64)
