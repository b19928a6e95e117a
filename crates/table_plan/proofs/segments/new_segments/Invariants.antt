use Rattle.table_plan.proofs.Prelude.{◌≡◌, ◌+◌, ◌++◌, drop, segments_from}
use Rattle.table_plan.proofs.segments.new_segments.Given as goal

abbrev pub invariant-loop-i : goal.invariant-loop-i
invariant-loop-i l = l.out.items ++ segments_from (l.first + l.i) (l.number + l.i) l.left (drop l.i l.places) ≡ segments_from l.first l.number l.sectors l.places
