use Rattle.chain_reads.proofs.Prelude.{◌≡◌, ℕ, ◌+◌, ◌<◌, ◌≤◌, Facts, cursor_at, weight, AllFollow, AreOf, IsRangeAt, NoneRises}
use Rattle.chain_reads.proofs.chains.Chains.go_on.Given as goal

abbrev pub invariant-loop-k : goal.invariant-loop-k
invariant-loop-k l = record {
  follows : (f : Facts) → AreOf f l.self → AllFollow f l.initial.cursors l.cursors;
  sinks : NoneRises l.initial.cursors l.cursors;
  rest : (place : ℕ) → l.i + l.k ≤ place → cursor_at l.cursors place ≡ cursor_at l.initial.cursors place;
  first : 0 < l.k → weight (cursor_at l.cursors l.i) ≤ l.fn.at.medium.0;
  part : (f : Facts) → AreOf f l.self → (x : ℕ) → l.fn.at.sector + l.k ≤ x → x < l.part.end → IsRangeAt f l.fn.at.medium.0 x l.part.range;
}
