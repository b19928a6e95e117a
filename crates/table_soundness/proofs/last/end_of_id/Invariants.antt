use Rattle.table_soundness.proofs.Prelude.{◌-◌, ℕ, ◌<◌, ◌≤◌, length, slice_index_or, id_of}
use Rattle.table_soundness.proofs.last.end_of_id.Given as goal

abbrev pub invariant-loop-low : goal.invariant-loop-low
invariant-loop-low g l = record {
  order : l.low ≤ l.high;
  within : l.high ≤ length l.facts;
  below : (i : ℕ) (d : g.row.F.Denot) → i < l.low → id_of (g.F.Fact.key (slice_index_or l.facts i d)) ≤ l.id;
  above : (i : ℕ) (d : g.row.F.Denot) → l.high ≤ i → i < length l.facts → l.id < id_of (g.F.Fact.key (slice_index_or l.facts i d));
}

abbrev pub decreases-loop-low : goal.decreases-loop-low
decreases-loop-low g l = l.high - l.low
