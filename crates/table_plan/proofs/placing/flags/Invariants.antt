use Rattle.table_plan.proofs.Prelude.{◌≡◌, ◌<◌, ℕ, false, length, get_or, take, is_named}
use Rattle.table_plan.proofs.placing.flags.Given as goal

abbrev pub invariant-loop-fact : goal.invariant-loop-fact
invariant-loop-fact l = record {
  len : length l.flags.items ≡ l.staged;
  each : (i : ℕ) → i < l.staged → get_or l.flags.items i false ≡ is_named (take l.fact-index l.facts) i;
}
