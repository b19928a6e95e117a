use Rattle.medium_table.proofs.Prelude.{rules, dedup_same, answers_always, id_of_medium}
use Rattle.medium_table.proofs.IdLemmas.{are_same, rising_once, same_once}
use Rattle.medium_table.proofs.ids.put_in_order.Goals as goal

pub returns-clause-ascends : goal.returns-clause-ascends
returns-clause-ascends c =
    let kept = dedup_same _ are_same _ (λ x y b f' x' y' k. search rules) _ _ c.dedup_by_key.ensures.filtered in
    rw kept (rising_once _ (c.sort_unstable_by_key.ensures.sorted id_of_medium (answers_always _ _ _ (λ f a r g h. search rules))))

pub returns-clause-ids : goal.returns-clause-ids
returns-clause-ids c = λ m.
    let kept = dedup_same _ are_same _ (λ x y b f' x' y' k. search rules) _ _ c.dedup_by_key.ensures.filtered in
    rw kept (same_once _ _ m c.sort_unstable_by_key.ensures.permutation)
