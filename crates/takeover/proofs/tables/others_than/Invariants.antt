use Rattle.takeover.proofs.Prelude.{◌≡◌, ℕ, ◌<◌, false, get_or, length, not}
use Rattle.takeover.proofs.tables.others_than.Given as goal

abbrev pub invariant-loop-slot : goal.invariant-loop-slot
invariant-loop-slot l = record {
  size : length l.others ≡ 24;
  done : (k : ℕ) → k < l.slot → get_or l.others k false ≡ not (get_or l.drives k false);
}
