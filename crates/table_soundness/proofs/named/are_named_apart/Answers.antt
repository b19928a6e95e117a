use Rattle.table_soundness.proofs.Prelude.{◌≢◌, PatchSegment, pairs_map, pairs_unmap}
use Rattle.table_soundness.proofs.named.are_named_apart.Goals as goal

pub returns : goal.returns
returns c =
    let d = rw (c.deref_mut.ensures.value, c.in_ok-ids.ensures) at c.are_distinct.ensures.distinct in (
      λ yes. pairs_unmap (λ m n. m ≢ n) (λ (s : PatchSegment). s.id) c.args.named.now (d.0 yes),
      λ h. d.1 (pairs_map (λ m n. m ≢ n) (λ (s : PatchSegment). s.id) c.args.named.now h),
    )
