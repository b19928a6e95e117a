use Rattle.std.specs.Vec.{vec_capacity}
use Rattle.nvram_log.proofs.Prelude.{◌≡◌, ◌≤◌, ◌⊎◌, ℕ, length, Some, slice_get, Logged, IsThere, NoneThere, LOG_SLOTS}
use Rattle.nvram_log.proofs.gather.gather.Given as goal

abbrev pub invariant-loop-i : goal.invariant-loop-i
invariant-loop-i l = record {
  size : length l.records.items ≡ l.i;
  room : LOG_SLOTS ≤ vec_capacity l.records;
  each : (k : ℕ) (x : Logged) → slice_get l.records.items k ≡ Some x → IsThere l.initial.first k x ⊎ (NoneThere l.initial.first k × IsThere l.initial.second k x);
  first : (k : ℕ) → l.i ≤ k → slice_get l.first k ≡ slice_get l.initial.first k;
  second : (k : ℕ) → l.i ≤ k → slice_get l.second k ≡ slice_get l.initial.second k;
}
