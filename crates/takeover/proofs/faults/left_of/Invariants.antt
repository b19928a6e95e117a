use Rattle.takeover.proofs.Prelude.{◌≡◌, ℕ, ◌<◌, ◌≤◌, ◌&&◌, false, get_or, not}
use Rattle.takeover.proofs.faults.left_of.Given as goal

abbrev pub invariant-loop-slot : goal.invariant-loop-slot
invariant-loop-slot l = record {
  done : (k : ℕ) → k < l.slot → get_or l.left k false ≡ (get_or l.drives k false && not (get_or l.lost k false));
  rest : (k : ℕ) → l.slot ≤ k → get_or l.left k false ≡ get_or l.drives k false;
}
