use Rattle.segment_io.proofs.Prelude.{◌≡◌, ℕ, ◌<◌, true, length, SLOTS_MAX, is_in, place_of, is_unknown}
use Rattle.segment_io.proofs.gathering.drives_of.Given as goal

abbrev pub invariant-loop-shard : goal.invariant-loop-shard
invariant-loop-shard l = record {
  size : length l.drives ≡ SLOTS_MAX;
  each : (k : ℕ) → k < l.shard → is_in l.drives (place_of l.places k).slot ≡ is_unknown l.unknown k;
  no_other : (slot : ℕ) → is_in l.drives slot ≡ true → (k : ℕ) × (k < l.shard) × (slot ≡ (place_of l.places k).slot);
}
