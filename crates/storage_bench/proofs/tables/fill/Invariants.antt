use Rattle.std.proofs.Common.{◌+◌, ◌*◌}
use Rattle.storage_bench.specs.Numbers.{AreBelow}
use Rattle.storage_bench.proofs.tables.fill.Given as goal

abbrev pub invariant-loop-i : goal.invariant-loop-i
invariant-loop-i g l = AreBelow (l.fn.first + l.i * 64) l.table
