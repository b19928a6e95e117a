use Rattle.nvram_log.proofs.Prelude.{◌≡◌, ◌<◌, ℕ, false, slice_index_or, length, is_open, LOG_SLOTS}
use Rattle.nvram_log.proofs.reading.open_in.Given as goal

abbrev pub invariant-loop-i : goal.invariant-loop-i
invariant-loop-i l = record {
  size : length l.«open» ≡ LOG_SLOTS;
  each : (k : ℕ) → k < l.i → slice_index_or l.«open» k false ≡ is_open k l.gates;
}
