use Rattle.table_plan.proofs.Prelude.{◌≡◌, ℕ, ◌+◌, ◌<◌, length, get_or, take, None, last_witness}
use Rattle.table_plan.proofs.witnesses.new_witnesses.Given as goal

abbrev pub invariant-loop-fact : goal.invariant-loop-fact
invariant-loop-fact l = record {
  len : length l.found.items ≡ l.count;
  last : (i : ℕ) → i < l.count → get_or l.found.items i None ≡ last_witness (l.first + i) None (take l.fact-index l.facts);
}
