use Rattle.table_soundness.proofs.Prelude.{IsNonDecreasingBy-from_sort}
use Rattle.table_soundness.proofs.MediumLemmas.{frozen_from_numbers, numbers_from_frozen}
use Rattle.table_soundness.proofs.mediums.are_frozen.Goals as goal

pub lead_elsewhere-requires : goal.lead_elsewhere-requires
lead_elsewhere-requires c = rw c.deref.ensures.value (IsNonDecreasingBy-from_sort (λ n. n) _ c.sort_unstable.ensures.sorted)

pub returns : goal.returns
returns c =
    let objects = c.args.objects.now in
    let ranges = c.args.ranges.now in
    let moved = rw c.in_ok-mediums.ensures at c.sort_unstable.ensures.permutation in
    let lead = rw c.deref.ensures.value at c.lead_elsewhere.ensures in (
      λ yes. frozen_from_numbers objects c.sort_unstable.new.self.items ranges moved (lead.0 yes),
      λ h. lead.1 (numbers_from_frozen objects c.sort_unstable.new.self.items ranges moved h),
    )
