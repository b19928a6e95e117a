use Rattle.record_tables.proofs.Prelude.{◌≡◌, ◌+◌, ◌++◌, drop, segments_from}
use Rattle.record_tables.proofs.patches.segments_from.Given as goal

abbrev pub invariant-loop-i : goal.invariant-loop-i
invariant-loop-i l = l.segments.items ++ segments_from (l.first + l.i) (drop l.i l.units) ≡ segments_from l.first l.units
