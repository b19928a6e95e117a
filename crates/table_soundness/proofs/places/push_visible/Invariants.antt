use Rattle.table_soundness.proofs.Prelude.{◌≡◌, ◌++◌, map, take, flat_map, code_of}
use Rattle.table_soundness.proofs.places.push_visible.Given as goal

abbrev pub invariant-loop-segment : goal.invariant-loop-segment
invariant-loop-segment l = l.codes.items ≡ l.initial.codes.items ++ map code_of (flat_map (λ s. s.places) (take l.segment-index l.shown))
