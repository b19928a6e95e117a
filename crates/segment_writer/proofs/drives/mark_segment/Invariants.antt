use Rattle.segment_writer.proofs.Prelude.{◌≡◌, ◌⊎◌, ℕ, ◌<◌, true, length, SLOTS_MAX, is_in, place_of}
use Rattle.segment_writer.proofs.drives.mark_segment.Given as goal

abbrev pub invariant-loop-shard : goal.invariant-loop-shard
invariant-loop-shard l = record {
  size : length l.drives ≡ SLOTS_MAX;
  each : (k : ℕ) → k < l.shard → is_in l.drives (place_of l.places k).slot ≡ true;
  stays : (slot : ℕ) → is_in l.fn.drives slot ≡ true → is_in l.drives slot ≡ true;
  no_other : (slot : ℕ) → is_in l.drives slot ≡ true → (is_in l.fn.drives slot ≡ true) ⊎ ((k : ℕ) × (k < l.shard) × (slot ≡ (place_of l.places k).slot));
}
