use Rattle.segment_io.proofs.Prelude.{ℕ, ◌<◌, ◌≤◌, IsPlace, place_of}
use Rattle.segment_io.proofs.units.are_places.Given as goal

abbrev pub invariant-loop-shard : goal.invariant-loop-shard
invariant-loop-shard g l = record {
  each : (k : ℕ) → k < l.shard → IsPlace (g.S.Shelf.shelf l.shelf) (place_of l.places k);
  ascending : (j k : ℕ) → j < k → k < l.shard → (place_of l.places j).slot < (place_of l.places k).slot;
  below : (k : ℕ) → k < l.shard → (place_of l.places k).slot < l.least;
  least : (slot : ℕ) → ((k : ℕ) → k < l.shard → (place_of l.places k).slot < slot) → l.least ≤ slot;
}
