use Rattle.table_soundness.proofs.Prelude.{volume_mediums, IsNonDecreasingBy-from_sort}
use Rattle.table_soundness.proofs.DistinctLemmas.{rising_from_distinct}
use Rattle.table_soundness.proofs.OwnedLemmas.{avoid_from_owned, distinct_from_owned, owned_from_numbers}
use Rattle.table_soundness.proofs.owned.own_their_mediums.Goals as goal

pub are_owned-requires : goal.are_owned-requires
are_owned-requires c = rw c.deref.ensures.value (IsNonDecreasingBy-from_sort (λ n. n) _ c.sort_unstable.ensures.sorted)

pub returns : goal.returns
returns c =
    let objects = c.args.objects.now in
    let sorted = c.sort_unstable.new.self.items in
    let moved = rw c.in_ok-mediums.ensures at c.sort_unstable.ensures.permutation in
    let rising = rising_from_distinct (volume_mediums objects) sorted moved c.sort_unstable.ensures.sorted in
    let owned = rw c.deref.ensures.value at c.are_owned.ensures in (
      λ yes. owned_from_numbers objects sorted moved (rising.1 (owned.0 yes).0) (owned.0 yes).1,
      λ h. owned.1 (rising.0 (distinct_from_owned objects h), avoid_from_owned objects sorted moved h),
    )
