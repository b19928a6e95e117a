use Rattle.free_space.proofs.Prelude.{drop}
use Rattle.free_space.proofs.Taking.{IsTaking}
use Rattle.free_space.proofs.counting.take_places.Given as goal

abbrev pub invariant-loop-place : goal.invariant-loop-place
invariant-loop-place l = IsTaking l.initial.free l.free l.places (drop l.place-index l.places)
