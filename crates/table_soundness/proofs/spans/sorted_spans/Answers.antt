use Rattle.table_soundness.proofs.Prelude.{rules, IsNonDecreasingBy-from_sort_by, rank}
use Rattle.table_soundness.proofs.spans.sorted_spans.Goals as goal

pub returns-clause-sorted : goal.returns-clause-sorted
returns-clause-sorted c = IsNonDecreasingBy-from_sort_by rank _ c.sort_unstable_by.ensures.sorted (λ a r q k. search rules)
