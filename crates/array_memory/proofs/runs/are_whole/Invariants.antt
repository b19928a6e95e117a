use Rattle.array_memory.proofs.Prelude.{◌≡◌, ◌<◌, ℕ, List, length, get_or, SECTOR_BYTES}
use Rattle.array_memory.proofs.runs.are_whole.Given as goal

abbrev pub invariant-loop-sector : goal.invariant-loop-sector
invariant-loop-sector l = (k : ℕ) (d : List ℕ) → k < l.sector-index → length (get_or l.sectors k d) ≡ SECTOR_BYTES
