use Rattle.segment_io.proofs.Prelude.{◌≢◌, ◌∙◌, arith, below_more, length-set, get_or-set_same, get_or-set_other}
use Rattle.segment_io.proofs.reading.missing_shards.Goals as goal

pub loop-shard-preserved : goal.loop-shard-preserved
loop-shard-preserved c =
    let inv = c.loop-shard.invariant in
    let shard = c.loop-shard.shard in
    let flags = c.loop-shard.unknown in
    record {
      size = length-set flags shard c.is_member.result ∙ inv.size;
      each = below_more _ shard
          (λ k lt. let ne : k ≢ shard = omega (arith, lt) in get_or-set_other flags shard k c.is_member.result _ ne ∙ inv.each k lt)
          (get_or-set_same flags shard c.is_member.result _ (omega (arith, inv.size, c.loop-shard-test.true)) ∙ c.is_member.ensures);
    }
