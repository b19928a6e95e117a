use Rattle.segment_io.proofs.Prelude.{◌≡◌, ℕ, ◌<◌, length, is_unknown, is_missing_in}
use Rattle.segment_io.proofs.reading.missing_shards.Given as goal

abbrev pub invariant-loop-shard : goal.invariant-loop-shard
invariant-loop-shard l = record {
  size : length l.unknown ≡ 9;
  each : (k : ℕ) → k < l.shard → is_unknown l.unknown k ≡ is_missing_in l.missing l.places k;
}
