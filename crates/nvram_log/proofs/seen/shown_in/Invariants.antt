use Rattle.nvram_log.proofs.Prelude.{◌≡◌, ◌<◌, ℕ, true, false, slice_index_or, length, Logged, IsThere, NoneThere, LOG_SLOTS}
use Rattle.nvram_log.proofs.seen.shown_in.Given as goal

abbrev pub invariant-loop-i : goal.invariant-loop-i
invariant-loop-i l = record {
  size : length l.shown ≡ LOG_SLOTS;
  some : (k : ℕ) → k < l.i → slice_index_or l.shown k false ≡ true → (x : Logged) × IsThere l.records k x;
  none : (k : ℕ) → k < l.i → slice_index_or l.shown k false ≡ false → NoneThere l.records k;
}
