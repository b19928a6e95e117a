use Rattle.array_memory.proofs.Prelude.{ℕ, ◌+◌, ◌<◌, ◌≤◌, ◌^◌}
use Rattle.array_memory.specs.Saying.{HasBehind}
use Rattle.array_memory.proofs.said.run_length.Given as goal

abbrev pub invariant-loop-n : goal.invariant-loop-n
invariant-loop-n l = record {
  fits : l.fn.first + l.n + 1 ≤ 2 ^ 32;
  follow : (j : ℕ) → j < l.n → HasBehind l.fn.medium.0 l.fn.first l.fn.behind j;
}
