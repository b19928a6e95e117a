use Rattle.free_space.proofs.Prelude.{drop}
use Rattle.free_space.proofs.Loops.{IsMarking}
use Rattle.free_space.proofs.marking.mark_places.Given as goal

abbrev pub invariant-loop-place : goal.invariant-loop-place
invariant-loop-place l = IsMarking l.initial.map l.map l.places (drop l.place-index l.places)
