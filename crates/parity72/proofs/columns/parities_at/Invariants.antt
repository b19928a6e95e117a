use Rattle.parity72.proofs.Prelude.{◌≡◌, ℕ, ◌+◌, ◌-◌, ◌<◌, ◌≤◌, slice_index, byte_of}
use Rattle.parity72.proofs.Sums.{horner_from, sum_from}
use Rattle.parity72.proofs.columns.parities_at.Given as goal

abbrev pub invariant-loop-i : goal.invariant-loop-i
invariant-loop-i l = record {
  within : l.i ≤ 6;
  bytes : (j k : ℕ) → l.i ≤ j → j < 7 → k < 64 → byte_of l.shards j (l.at + k) < 256;
  p : (k : ℕ) → k < 64 → slice_index l.p k ≡ sum_from (λ j. byte_of l.shards j (l.at + k)) l.i (7 - l.i);
  q : (k : ℕ) → k < 64 → slice_index l.q k ≡ horner_from (λ j. byte_of l.shards j (l.at + k)) l.i;
}

abbrev pub decreases-loop-i : goal.decreases-loop-i
decreases-loop-i l = l.i
