use Rattle.table_soundness.proofs.Prelude.{◌≡◌, ◌^◌, length, take, facts_of}
use Rattle.std.proofs.Common.{◌-◌, min}
use Rattle.table_soundness.proofs.shown.count_of.Given as goal

abbrev pub invariant-loop-patch : goal.invariant-loop-patch
invariant-loop-patch g l = l.count ≡ min (length (facts_of (take l.patch-index l.patches))) (2 ^ 64 - 1)
