use Rattle.std.proofs.Common.{◌+◌, ◌*◌}
use Rattle.storage_bench.specs.Numbers.{AreBelow}
use Rattle.storage_bench.proofs.tables.made_table.Given as goal

abbrev pub invariant-loop-i : goal.invariant-loop-i
invariant-loop-i g l = AreBelow (1 + l.i * 6144) l.table
