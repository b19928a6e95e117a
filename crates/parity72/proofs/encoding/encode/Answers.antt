use Rattle.parity72.proofs.Prelude.{◌≡◌, ℕ, ◌+◌, ◌*◌, ◌<◌, get_or, ◌∙◌, arith, subst, p_of, q_of, IsRead}
use Rattle.parity72.proofs.Progress.{below_block}
use Rattle.parity72.proofs.Codewords.{IsCodeword-encoded, IsRead-more}
use Rattle.parity72.proofs.encoding.encode.Goals as goal

next : (k m : ℕ) → k < (m + 1) * 64 → k < m * 64 + 64
next k m lt = omega arith

pub loop-block-preserved : goal.loop-block-preserved
loop-block-preserved c =
    let shards = c.args.shards.now in
    let m = c.loop-block.block in
    let kept = c.loop-block.invariant in
    let end : m * 64 + 64 ≡ (m + 1) * 64 = omega arith in
    record {
      was_read = subst (IsRead 7 shards 0) end (IsRead-more 7 shards (m * 64) (m * 64 + 64) kept.was_read c.parities_at.ensures.was_read (omega arith));
      p_long = c.put_lanes.auto.into ∙ kept.p_long;
      q_long = c.put_lanes-in-loop-block.auto.into ∙ kept.q_long;
      p = λ k lt. below_block (λ k. get_or c.put_lanes.new.into k 0 ≡ p_of shards k) (m * 64) 64
          (λ k lt. c.put_lanes.ensures.below k lt ∙ kept.p k lt) (λ k lt. c.put_lanes.ensures.here k lt ∙ c.parities_at.ensures.p k lt) k (next k m lt);
      q = λ k lt. below_block (λ k. get_or c.put_lanes-in-loop-block.new.into k 0 ≡ q_of shards k) (m * 64) 64
          (λ k lt. c.put_lanes-in-loop-block.ensures.below k lt ∙ kept.q k lt) (λ k lt. c.put_lanes-in-loop-block.ensures.here k lt ∙ c.parities_at.ensures.q k lt) k (next k m lt);
    }

pub returns : goal.returns
returns c =
    let kept = c.loop-block.invariant in
    let end : c.loop-block.block * 64 ≡ 4096 = omega arith in
    IsCodeword-encoded c.args.shards.now c.loop-block.p c.loop-block.q c.told-shards kept.p_long kept.q_long
    (subst (IsRead 7 c.args.shards.now 0) end kept.was_read) (λ k lt. kept.p k (omega arith)) (λ k lt. kept.q k (omega arith))
