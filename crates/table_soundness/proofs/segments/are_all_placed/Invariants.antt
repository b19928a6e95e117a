use Rattle.table_soundness.proofs.Prelude.{take, All, AscendFrom}
use Rattle.table_soundness.proofs.segments.are_all_placed.Given as goal

abbrev pub invariant-loop-segment : goal.invariant-loop-segment
invariant-loop-segment l = All (λ d. AscendFrom l.slots l.units 0 d.places) (take l.segment-index l.shown)
