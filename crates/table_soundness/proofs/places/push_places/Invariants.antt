use Rattle.table_soundness.proofs.Prelude.{◌≡◌, ◌++◌, map, take, code_of}
use Rattle.table_soundness.proofs.places.push_places.Given as goal

abbrev pub invariant-loop-place : goal.invariant-loop-place
invariant-loop-place l = l.codes.items ≡ l.initial.codes.items ++ map code_of (take l.place-index l.places)
