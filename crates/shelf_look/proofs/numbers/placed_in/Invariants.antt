use Rattle.shelf_look.proofs.Prelude.{◌≡◌, ◌*◌, ◌≤◌, take, sum_by}
use Rattle.shelf_look.proofs.numbers.placed_in.Given as goal

abbrev pub invariant-loop-segment : goal.invariant-loop-segment
invariant-loop-segment l = (l.placed ≡ sum_by (λ d. d.placed) (take l.segment-index l.segments)) × (l.placed ≤ 65536 * l.segment-index)
