use Rattle.nvram_log.proofs.Prelude.{◌≡◌, ℕ, length, ◌<◌, ◌&&◌, not, nat_lt, slice_index_or, false}
use Rattle.nvram_log.proofs.seen.SeenSlots.closing.Given as goal

abbrev pub invariant-loop-i : goal.invariant-loop-i
invariant-loop-i l = record {
  size : length l.closing ≡ 64;
  set : (k : ℕ) → k < l.i → slice_index_or l.closing k false ≡ (slice_index_or l.self.open k false && not (slice_index_or l.self.shown k false && nat_lt k l.count));
}
