use Rattle.table_soundness.proofs.DistinctLemmas.{rising_from_distinct}
use Rattle.table_soundness.proofs.distinct.are_distinct.Goals as goal

pub returns-clause-distinct : goal.returns-clause-distinct
returns-clause-distinct c =
    let rising = rising_from_distinct c.args.numbers.now c.sort_unstable.new.self c.sort_unstable.ensures.permutation c.sort_unstable.ensures.sorted in
    (λ yes. rising.1 (c.are_strictly_rising.ensures.0 yes), λ h. c.are_strictly_rising.ensures.1 (rising.0 h))
