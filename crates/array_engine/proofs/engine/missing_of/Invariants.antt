use Rattle.array_engine.proofs.Prelude.{◌≡◌, ℕ, ◌<◌, length, not, false, slice_index_or}
use Rattle.array_engine.proofs.engine.missing_of.Given as goal

abbrev pub invariant-loop-slot : goal.invariant-loop-slot
invariant-loop-slot l = (length l.missing ≡ 24) × ((k : ℕ) → k < l.slot → slice_index_or l.missing k false ≡ not (slice_index_or l.drives k false))
