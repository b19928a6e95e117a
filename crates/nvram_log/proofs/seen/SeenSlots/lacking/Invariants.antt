use Rattle.nvram_log.proofs.Prelude.{◌≡◌, ℕ, length, ◌<◌, ◌&&◌, not, nat_lt, slice_index_or, false}
use Rattle.nvram_log.proofs.seen.SeenSlots.lacking.Given as goal

abbrev pub invariant-loop-i : goal.invariant-loop-i
invariant-loop-i l = record {
  size : length l.lacking ≡ 64;
  set : (k : ℕ) → k < l.i → slice_index_or l.lacking k false ≡ (nat_lt k l.count && not (slice_index_or l.self.shown k false));
}
