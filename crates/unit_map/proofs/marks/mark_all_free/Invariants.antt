use Rattle.unit_map.proofs.MarkLemmas.{IsMarkedUpTo}
use Rattle.unit_map.proofs.marks.mark_all_free.Given as goal

abbrev pub invariant-loop-place : goal.invariant-loop-place
invariant-loop-place l = IsMarkedUpTo l.initial.drives l.drives l.places l.place-index
