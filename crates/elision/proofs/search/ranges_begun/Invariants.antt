use Rattle.elision.proofs.Prelude.{◌-◌, ℕ, ◌<◌, ◌≤◌, length, slice_index_or}
use Rattle.elision.proofs.search.ranges_begun.Given as goal

abbrev pub invariant-loop-low : goal.invariant-loop-low
invariant-loop-low l = record {
  order : l.low ≤ l.high;
  within : l.high ≤ length l.ranges;
  begun : (i : ℕ) (d : ℕ × ℕ) → i < l.low → (slice_index_or l.ranges i d).0 ≤ l.id;
  later : (i : ℕ) (d : ℕ × ℕ) → l.high ≤ i → i < length l.ranges → l.id < (slice_index_or l.ranges i d).0;
}

abbrev pub decreases-loop-low : goal.decreases-loop-low
decreases-loop-low l = l.high - l.low
