use Rattle.table_soundness.proofs.Prelude.{◌≡◌, map, take}
use Rattle.table_soundness.proofs.named.ids_of.Given as goal

abbrev pub invariant-loop-segment : goal.invariant-loop-segment
invariant-loop-segment l = l.ids.items ≡ map (λ s. s.id) (take l.segment-index l.named)
