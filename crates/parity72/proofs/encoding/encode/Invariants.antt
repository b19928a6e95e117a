use Rattle.parity72.proofs.Prelude.{◌≡◌, ℕ, ◌*◌, ◌<◌, length, slice_index, IsRead, p_of, q_of}
use Rattle.parity72.proofs.encoding.encode.Given as goal

abbrev pub invariant-loop-block : goal.invariant-loop-block
invariant-loop-block l = record {
  was_read : IsRead 7 l.shards 0 (l.block * 64);
  p_long : length l.p ≡ 4096;
  q_long : length l.q ≡ 4096;
  p : (k : ℕ) → k < l.block * 64 → slice_index l.p k ≡ p_of l.shards k;
  q : (k : ℕ) → k < l.block * 64 → slice_index l.q k ≡ q_of l.shards k;
}
